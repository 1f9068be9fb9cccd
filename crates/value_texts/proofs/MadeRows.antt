-- Rows that are made of rules.
use Rattle.std.proofs.Common.{◌≡◌, ℕ, Bool, true, false, cond, List, Option, Some, None, Result, Ok, Err, ℤ, pos, refl, sym, ap, subst, ◌∙◌}
use Rattle.std.specs.Prelude.{not, IfOk, IfSome, ⊤}
use Rattle.std.specs.Option.{option_map}
use Rattle.sbe_types.specs.declared.kind.Kind.{Kind, Leaf, Enum, Set, Const, Comp', items-the_row-Member}
use Rattle.sbe_types.specs.declared.kind.Leaf.{Leaf as LeafOf}
use Rattle.sbe_types.specs.declared.kind.LeafShape.{LeafShape}
use Rattle.sbe_types.specs.declared.kind.LeafShape.TheVariants.{Number, RangedText, EncodedText, Octets, Numbers}
use Rattle.sbe_types.specs.declared.kind.Named.{Named}
use Rattle.sbe_types.specs.declared.kind.Order.{Order}
use Rattle.sbe_types.specs.declared.kind.Primitive.{Primitive}
use Rattle.sbe_types.specs.declared.kind.Primitive.TheVariants.{Char, I8, I16, I32, I64, U8, U16, U32, U64}
use Rattle.sbe_types.specs.declared.message.Value.{Value}
use Rattle.sbe_types.specs.declared.message.Value.TheVariants as value
use Rattle.sbe_types.specs.Numbers.{number_of}
use Rattle.sbe_types.specs.Shown.{admits, is_null}
use Rattle.sbe_types.specs.Shows.{Shows, ShowsLeaf}
use Rattle.schema_rules.specs.Ranges.{is_number_of}
use Rattle.schema_facts.specs.InOrder.{IsKindInOrder, IsLeafFrom}
use Rattle.fix_values.specs.declared.rule.Code.{Code}
use Rattle.fix_values.specs.declared.rule.NumRule.{NumRule}
use Rattle.fix_values.specs.declared.rule.NumRule.TheVariants as spelling
use Rattle.fix_values.specs.Codes.{set_text}
use Rattle.fix_values.specs.declared.rule.V.{V}
use Rattle.fix_values.specs.Values.{is_asked, text_of, text_shown, Leaves}
use Rattle.bridge_rules.specs.Rules.{Rule, integer, integer_decimal, fixed_decimal, floating_decimal, single_char, char_array, enum_code, enum_number, enum_boolean, choice_set, raw_data, text_data, day_count, moment, month_year, any_text, constant, is_char, MonthLeaves}
use Rattle.bridge_rules.specs.Datatypes.{Datatype}
use Rattle.bridge_rules.specs.Members.{and_then, bits_in, is_const, not_zero, number_in}
use Rattle.bridge_rules.specs.Table.{every_byte, every_number, is_char_leaf, is_number, rule_of}
use Rattle.bridge_rules.specs.Texts.{field_text, judged_text, text_by, text_if_any}
use Rattle.bridge_rules.proofs.BoolLemmas.{and_so, true_false}
use Rattle.bridge_rules.proofs.OptionLemmas.{and_first, and_second, none_some, some_is}
use Rattle.bridge_rules.proofs.TableCases.{leaf_cases, enum_cases, set_cases, composite_cases, const_cases}
use Rattle.bridge_rules.proofs.TypeFacts.{in_primitive}
use Rattle.bridge_table.specs.declared.rule.Epoch.{Epoch}
use Rattle.bridge_table.specs.declared.rule.Unit.{Unit as UnitRow}
use Rattle.bridge_table.specs.declared.rule.ConstRule.{ConstRule}
use Rattle.bridge_table.specs.declared.rule.ConstRule.TheVariants as given
use Rattle.bridge_table.specs.declared.rule.EnumRule.{EnumRule}
use Rattle.bridge_table.specs.declared.rule.EnumRule.TheVariants as listed
use Rattle.bridge_table.specs.declared.rule.FieldRule.TheVariants as given_rule
use Rattle.bridge_table.specs.declared.rule.MonthLeaves.{MonthLeaves as Months}
use Rattle.bridge_table.specs.Rows.{const_with, enum_with, epoch_of, unit_of}
use Rattle.value_texts.specs.declared.row.TextRule.{TextRule}
use Rattle.value_texts.specs.declared.row.TextRule.TheVariants as row
use Rattle.value_texts.specs.declared.row.ConstText.{ConstText}
use Rattle.value_texts.specs.declared.row.ValueText.{ValueText}
use Rattle.value_texts.specs.Coded.{AreCodes}
use Rattle.value_texts.specs.Rows.{const_text, CanAsk, ReadsBy, Spells, SpellsText}
use Rattle.value_texts.specs.declared.face.NumberFace.{NumberFace}
use Rattle.value_texts.specs.Faces.{enum_leaf, IsFaceFor}
use Rattle.value_texts.specs.Made.{const_shown, enum_spelling, kept_of, IsMadeFor}
use Rattle.value_texts.specs.FieldViews.{IsValueOf}
use Rattle.value_texts.proofs.FaceReads.{char_reads, code_reads, decimal_reads, integer_reads, listed_reads, text_reads, truth_reads, unscaled_reads, ReadsNumbers}
use Rattle.value_texts.proofs.Plain.{IsPlain, plain_shown}

-- every number may be asked
free : (rule : NumRule) → ((n : ℤ) → is_asked rule n ≡ true) → (o : Option ℤ) → CanAsk rule o
free rule all None = tt
free rule all (Some n) = all n

pub spells_integer : (leaf : LeafOf) → SpellsText (row.Number spelling.Int) (integer leaf)
spells_integer leaf = record { text = λ v. refl; asked = λ k v table order is. free spelling.Int (λ n. refl) (number_in v); words = tt }

pub spells_unscaled : (leaf : LeafOf) → SpellsText (row.Number spelling.Decimal) (integer_decimal leaf)
spells_unscaled leaf = record { text = λ v. refl; asked = λ k v table order is. free spelling.Decimal (λ n. refl) (number_in v); words = tt }

pub spells_code : (leaf : LeafOf) (names : List Named) (codes : List Code) → SpellsText (row.Number (spelling.Code codes)) (enum_code leaf names codes)
spells_code leaf names codes = record { text = λ v. refl; asked = λ k v table order is. free (spelling.Code codes) (λ n. refl) (number_in v); words = tt }

pub spells_number : (leaf : LeafOf) (names : List Named) (codes : List Code) → SpellsText (row.Number (spelling.Code codes)) (enum_number leaf names codes)
spells_number leaf names codes = record { text = λ v. refl; asked = λ k v table order is. free (spelling.Code codes) (λ n. refl) (number_in v); words = tt }

pub spells_boolean : (leaf : LeafOf) (own : List Named) → SpellsText (row.Number (spelling.Boolean own)) (enum_boolean leaf own)
spells_boolean leaf own = record { text = λ v. refl; asked = λ k v table order is. free (spelling.Boolean own) (λ n. refl) (number_in v); words = tt }

pub spells_fixed : (leaf : LeafOf) (exponent : ℤ) → SpellsText (row.Decimal exponent) (fixed_decimal leaf exponent)
spells_fixed leaf exponent = record { text = λ v. refl; asked = λ k v table order is. tt; words = tt }

pub spells_floating : (m e : LeafOf) → SpellsText (row.Floating m e) (floating_decimal m e)
spells_floating m e = record { text = λ v. refl; asked = λ k v table order is. tt; words = tt }

pub spells_array : (leaf : LeafOf) → SpellsText row.Passage (char_array leaf)
spells_array leaf = record { text = λ v. refl; asked = λ k v table order is. tt; words = tt }

pub spells_day : (leaf : LeafOf) → SpellsText row.Day (day_count leaf)
spells_day leaf = record { text = λ v. refl; asked = λ k v table order is. tt; words = tt }

pub spells_moment : (from : Epoch) (leaf : LeafOf) (u : UnitRow) → SpellsText (row.Moment from u) (moment (epoch_of from) leaf (unit_of u))
spells_moment from leaf u = record { text = λ v. refl; asked = λ k v table order is. tt; words = tt }

pub spells_month : (leaves : MonthLeaves) → SpellsText row.Month (month_year leaves)
spells_month leaves = record { text = λ v. refl; asked = λ k v table order is. tt; words = tt }

pub spells_constant : (inner : Rule) (own : Value) (t : ConstText) → const_text t ≡ text_by inner own → SpellsText (row.Const t) (constant inner own)
spells_constant inner own t same = record { text = λ v. ap (λ t. cond (is_const v) t (Ok None)) (sym same); asked = λ k v table order is. tt; words = tt }

set_same : (codes : List Code) (o : Option ℕ) → text_if_any o (λ n. set_text codes n) ≡ text_if_any (option_map pos o) (λ n. text_of (spelling.Codes codes) n)
set_same codes None = refl
set_same codes (Some n) = refl

pub spells_set : (names : List Named) (codes : List Code) → SpellsText (row.Choices (spelling.Codes codes)) (choice_set names codes)
spells_set names codes = record { text = λ v. set_same codes (and_then (bits_in v) not_zero); asked = λ k v table order is. tt; words = λ n h. h }

-- ---- characters

-- the rule of a character is one of a leaf that is one
CharOf : Kind → Rule → Type 0
CharOf k (single_char leaf) = (k ≡ Leaf leaf) × (is_char_leaf leaf ≡ true)
CharOf k (integer leaf) = ⊤
CharOf k (integer_decimal leaf) = ⊤
CharOf k (fixed_decimal leaf exponent) = ⊤
CharOf k (floating_decimal leaf exponent) = ⊤
CharOf k (char_array leaf) = ⊤
CharOf k (enum_code leaf names codes) = ⊤
CharOf k (enum_number leaf names codes) = ⊤
CharOf k (enum_boolean leaf names) = ⊤
CharOf k (choice_set names codes) = ⊤
CharOf k (raw_data leaf) = ⊤
CharOf k (text_data leaf) = ⊤
CharOf k (day_count leaf) = ⊤
CharOf k (moment from leaf unit) = ⊤
CharOf k (month_year leaves) = ⊤
CharOf k any_text = ⊤
CharOf k (constant rule own) = ⊤

char_of : (k : Kind) (d : Datatype) (rule : Rule) → rule_of k d ≡ Some rule → CharOf k rule
unfolding CharOf
char_of (Leaf l) d rule h =
    leaf_cases (CharOf (Leaf l)) l (record { whole = λ is. tt; decimal = λ is. tt; day = λ is. tt; char = λ is. (refl, is); array = λ is. tt }) d rule h
char_of (Enum l names) d rule h = enum_cases (CharOf (Enum l names)) l names (record { code = λ list. tt; number = λ list. tt; truth = tt }) d rule h
char_of (Set p names) d rule h = set_cases (CharOf (Set p names)) names (λ list. tt) d rule h
char_of (Comp' n members) d rule h =
    composite_cases (λ ks rule. CharOf (Comp' n members) rule) (record {
      fixed = λ m e is. tt;
      floating = λ m e is also. tt;
      counted = λ from time c u is also. tt;
      wired = λ from time unit is also. tt;
      month = λ y m d w a b c e. tt;
    }) (items-the_row-Member _ members) d rule h
char_of (Const c) d rule h = const_cases (CharOf (Const c)) (λ inner own can. tt) c d rule h

char_is : (p : Primitive) → is_char p ≡ true → p ≡ Char
char_is Char h = refl
char_is I8 h = true_false h refl
char_is I16 h = true_false h refl
char_is I32 h = true_false h refl
char_is I64 h = true_false h refl
char_is U8 h = true_false h refl
char_is U16 h = true_false h refl
char_is U32 h = true_false h refl
char_is U64 h = true_false h refl

single_is : (s : LeafShape) → is_number s ≡ true → s ≡ Number
single_is Number h = refl
single_is RangedText h = true_false h refl
single_is EncodedText h = true_false h refl
single_is Octets h = true_false h refl
single_is Numbers h = true_false h refl

-- a number that is shown is one of the leaf's
asked_by : (s t : Bool) (n : ℤ) (v : Value) → cond s (Some value.Null) (cond t (Some (value.Num n)) None) ≡ Some v → (s ≡ false → t ≡ true → is_asked spelling.Char n ≡ true)
    → CanAsk spelling.Char (number_in v)
asked_by true t n v h asked = subst (λ v. CanAsk spelling.Char (number_in v)) (some_is h) tt
asked_by false true n v h asked = subst (λ v. CanAsk spelling.Char (number_in v)) (some_is h) (asked refl refl)
asked_by false false n v h asked = none_some h

leaf_asked : (leaf : LeafOf) (order : Order) (v : Value) (b : List ℕ) → IsLeafFrom 1 leaf → is_char_leaf leaf ≡ true → ShowsLeaf order leaf.shape leaf v b → CanAsk spelling.Char (number_in v)
leaf_asked leaf order v b facts is shows =
    let number = single_is leaf.shape (and_first (is_number leaf.shape) (is_char leaf.prim) is) in
    let char = char_is leaf.prim (and_second (is_number leaf.shape) (is_char leaf.prim) is) in
    let n = number_of order leaf.prim b in
    asked_by (is_null leaf n) (admits leaf n) n v (subst (λ s. ShowsLeaf order s leaf v b) number shows)
    (λ null admitted. subst (λ p. is_number_of p n ≡ true) char (in_primitive 1 leaf facts n (and_so (not (is_null leaf n)) (admits leaf n) (ap not null) admitted)))

kind_asked : (leaf : LeafOf) (k : Kind) (v : Value) → CharOf k (single_char leaf) → IsKindInOrder k → IsValueOf k v → CanAsk spelling.Char (number_in v)
unfolding CharOf
kind_asked leaf k v of order is =
    let shows : Shows is.order is.known (Leaf leaf) v is.bytes = subst (λ k. Shows is.order is.known k v is.bytes) of.0 is.shown in
    leaf_asked leaf is.order v is.bytes (subst IsKindInOrder of.0 order).parts of.1 shows.1

pub spells_char : (leaf : LeafOf) → SpellsText (row.Number spelling.Char) (single_char leaf)
spells_char leaf = record {
  text = λ v. refl;
  asked = λ k v table order is. kind_asked leaf k v (char_of k table.datatype (single_char leaf) table.is) order is;
  words = tt;
}

-- ---- what is made

-- a rule of texts that is made, where it is this one
pub made_as : (o : Option TextRule) (own : TextRule) (P : TextRule → Type 0) → IfSome o (λ r. r ≡ own) → P own → IfSome o P
made_as None own P is made = tt
made_as (Some r) own P is made = subst P (sym is) made

-- the same of what memory may fail for
pub made_ok : {E : Type 0} (o : Result (Option TextRule) E) (row : TextRule) (P : TextRule → Type 0) → IfOk o (λ made. IfSome made (λ r. r ≡ row)) → P row → IfOk o (λ made. IfSome made P)
made_ok (Ok made) row P is own = made_as made row P is own
made_ok (Err e) row P is own = tt

-- an enum's row
pub spells_enum : (rule : EnumRule) (names : List Named) → SpellsText (row.Number (enum_spelling rule)) (enum_with names rule)
spells_enum (listed.Code leaf codes) names = spells_code leaf names codes
spells_enum (listed.Number leaf codes) names = spells_number leaf names codes
spells_enum (listed.Boolean leaf own) names = spells_boolean leaf own

made_by : (own : ValueText) (text : TextRule) (rule : Rule) → own.rule ≡ text → SpellsText text rule → ReadsBy text own.face rule → AreCodes own.rule own.face own.codes → Spells own rule
made_by own text rule is texts reads codes = record {
  texts = subst (λ t. SpellsText t rule) (sym is) texts;
  reads = subst (λ t. ReadsBy t own.face rule) (sym is) reads;
  codes = codes;
}

enum_reads : (rule : EnumRule) (names : List Named) (q : NumberFace) → IsFaceFor q (enum_leaf rule) → ReadsNumbers q (enum_with names rule)
enum_reads (listed.Code leaf codes) names q face = code_reads q leaf names codes face
enum_reads (listed.Number leaf codes) names q face = listed_reads q leaf names codes face
enum_reads (listed.Boolean leaf own) names q face = truth_reads q leaf own face

pub made_integer : (leaf : LeafOf) → IsMadeFor (given_rule.Integer leaf) (row.Number spelling.Int)
made_integer leaf names own is face codes = made_by own _ _ is (spells_integer leaf) (integer_reads own.face leaf face) codes

pub made_unscaled : (leaf : LeafOf) → IsMadeFor (given_rule.IntegerDecimal leaf) (row.Number spelling.Decimal)
made_unscaled leaf names own is face codes = made_by own _ _ is (spells_unscaled leaf) (unscaled_reads own.face leaf face) codes

pub made_char : (leaf : LeafOf) → IsMadeFor (given_rule.SingleChar leaf) (row.Number spelling.Char)
made_char leaf names own is face codes = made_by own _ _ is (spells_char leaf) (char_reads own.face leaf face) codes

pub made_enum : (rule : EnumRule) → IsMadeFor (given_rule.Enum rule) (row.Number (enum_spelling rule))
made_enum rule names own is face codes = made_by own _ _ is (spells_enum rule names) (enum_reads rule names own.face face) codes

pub made_fixed : (leaf : LeafOf) (exponent : ℤ) → IsMadeFor (given_rule.FixedDecimal leaf exponent) (row.Decimal exponent)
made_fixed leaf exponent names own is face codes = made_by own _ _ is (spells_fixed leaf exponent) (decimal_reads own.face leaf exponent face) codes

pub made_floating : (m e : LeafOf) → IsMadeFor (given_rule.FloatingDecimal m e) (row.Floating m e)
made_floating m e names own is face codes = made_by own _ _ is (spells_floating m e) (λ k v known bytes table order shows. tt) codes

pub made_array : (leaf : LeafOf) → IsMadeFor (given_rule.CharArray leaf) row.Passage
made_array leaf names own is face codes = made_by own _ _ is (spells_array leaf) (text_reads leaf) codes

pub made_set : (codes : List Code) → IsMadeFor (given_rule.ChoiceSet codes) (row.Choices (spelling.Codes codes))
made_set codes_of names own is face codes = made_by own _ _ is (spells_set names codes_of) (λ k v known bytes table order shows. tt) codes

pub made_day : (leaf : LeafOf) → IsMadeFor (given_rule.DayCount leaf) row.Day
made_day leaf names own is face codes = made_by own _ _ is (spells_day leaf) (λ k v known bytes table order shows. tt) codes

pub made_moment : (from : Epoch) (leaf : LeafOf) (u : UnitRow) → IsMadeFor (given_rule.Moment from leaf u) (row.Moment from u)
made_moment from leaf u names own is face codes = made_by own _ _ is (spells_moment from leaf u) (λ k v known bytes table order shows. tt) codes

pub made_month : (leaves : Months) → IsMadeFor (given_rule.MonthYear leaves) row.Month
made_month leaves names own is face codes = made_by own _ _ is (spells_month _) (λ k v known bytes table order shows. tt) codes

-- the text of an enum's number
pub enum_text : (rule : EnumRule) (names : List Named) (n : ℤ) → text_by (enum_with names rule) (value.Enum n) ≡ field_text (text_of (enum_spelling rule) n)
enum_text (listed.Code leaf codes) names n = refl
enum_text (listed.Number leaf codes) names n = refl
enum_text (listed.Boolean leaf own) names n = refl

pub enum_asked : (rule : EnumRule) (n : ℤ) → is_asked (enum_spelling rule) n ≡ true
enum_asked (listed.Code leaf codes) n = refl
enum_asked (listed.Number leaf codes) n = refl
enum_asked (listed.Boolean leaf own) n = refl

-- a text that was kept is the one that was shown
pub kept_is : (r : Result Unit V) (w : List ℕ) (told : Result (List ℕ) V) → Leaves r w told → ((t : List ℕ) → told ≡ Ok t → IsPlain t) → const_text (kept_of r w) ≡ field_text told
kept_is r w (Ok t) h plain =
    ap (λ r. const_text (kept_of r w)) h.0 ∙ ap (λ w. field_text (judged_text w (text_shown w))) h.1 ∙ ap (λ o. field_text (judged_text t o)) (plain_shown t (plain t refl))
kept_is r w (Err v) h plain = ap (λ r. const_text (kept_of r w)) h.0

const_spelled : (names : List Named) (rule : ConstRule) (t : ConstText) → const_text t ≡ const_shown rule → SpellsText (row.Const t) (const_with names rule)
const_spelled names (given.Text s) t h = spells_constant any_text (value.Text s) t h
const_spelled names (given.Character b) t h = spells_constant (single_char (every_byte b)) (value.Num (pos b)) t h
const_spelled names (given.Integer n) t h = spells_constant (integer (every_number I64)) (value.Num n) t h
const_spelled names (given.Decimal n) t h = spells_constant (integer_decimal (every_number I64)) (value.Num n) t h
const_spelled names (given.Day n) t h = spells_constant (day_count (every_number I64)) (value.Num n) t h
const_spelled names (given.Enum rule n) t h = spells_constant (enum_with names rule) (value.Enum n) t (h ∙ sym (enum_text rule names n))

pub made_constant : (rule : ConstRule) (t : ConstText) → const_text t ≡ const_shown rule → IsMadeFor (given_rule.Const rule) (row.Const t)
made_constant rule t h names own is face codes = made_by own _ _ is (const_spelled names rule t h) (λ k v known bytes table order shows. tt) codes

pub kept_ok : {E : Type 0} (o : Result ConstText E) (made : ConstText) (T : Result (Option (List ℕ)) V) → IfOk o (λ m. m ≡ made) → const_text made ≡ T → IfOk o (λ m. const_text m ≡ T)
kept_ok (Ok m) made T is same = ap const_text is ∙ same
kept_ok (Err e) made T is same = tt
