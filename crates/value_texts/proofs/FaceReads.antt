-- What is read of values by their bytes, where the kind has the rule by the table.
use Rattle.std.proofs.Common.{◌≡◌, ◌<◌, ◌*◌, ℕ, Bool, true, false, cond, List, [], ◌∷◌, length, Some, None, ℤ, refl, sym, ap, ◌∙◌, subst, arith, take_all}
use Rattle.std.specs.Prelude.{◌&&◌, not, slice_get, ⊤}
use Rattle.std.specs.Ordering.{int_eq}
use denote.Hole.Carrier as carrier
use Rattle.sbe_types.specs.declared.kind.ConstValue.TheVariants as const
use Rattle.sbe_types.specs.declared.kind.Kind as kinds
use Rattle.sbe_types.specs.declared.kind.Kind.{Kind, Leaf, Enum, Set, Const, Comp, Comp', Row_of-Member, items-the_row-Member, items_shown-the_row-Member-0, roll-out-Kind}
use Rattle.sbe_types.specs.declared.kind.Leaf.{Leaf as LeafOf}
use Rattle.sbe_types.specs.declared.kind.LeafShape.{LeafShape}
use Rattle.sbe_types.specs.declared.kind.LeafShape.TheVariants.{Number, RangedText, EncodedText, Octets, Numbers}
use Rattle.sbe_types.specs.declared.kind.Member.{Member}
use Rattle.sbe_types.specs.declared.kind.Named.{Named}
use Rattle.sbe_types.specs.declared.kind.Order.TheVariants.{Little}
use Rattle.sbe_types.specs.declared.message.Value.{Value}
use Rattle.sbe_types.specs.declared.message.Value.TheVariants as value
use Rattle.sbe_types.specs.Numbers.{number_of, prim_width}
use Rattle.sbe_types.specs.Places.{bytes_at, is_const, member_place, width}
use Rattle.sbe_types.specs.Shown.{is_optional}
use Rattle.sbe_types.specs.Shows.{Shows, ShowsLeaf, text_value}
use Rattle.schema_facts.specs.InOrder.{IsKindInOrder, IsShapeOf}
use Rattle.fix_values.specs.declared.rule.Code.{Code}
use Rattle.field_values.specs.Reports.{before_zero, seen_element}
use Rattle.field_values.proofs.Shown.{text_front}
use Rattle.flyweight_view.proofs.SlotsTold.{member_order, placed_member}
use Rattle.bridge_rules.specs.Rules.{Rule, integer, integer_decimal, fixed_decimal, floating_decimal, single_char, char_array, enum_code, enum_number, enum_boolean, choice_set, raw_data, text_data, day_count, moment, month_year, any_text, constant, is_char}
use Rattle.bridge_rules.specs.Datatypes.{Datatype}
use Rattle.bridge_rules.specs.Members.{mantissa_in, number_in, text_in}
use Rattle.bridge_rules.specs.Table.{is_array, is_number, kinds_of, rule_of}
use Rattle.bridge_rules.proofs.BoolLemmas.{true_false}
use Rattle.bridge_rules.proofs.OptionLemmas.{and_first}
use Rattle.bridge_rules.proofs.TableCases.{leaf_cases, enum_cases, set_cases, composite_cases, const_cases}
use Rattle.message_walk.specs.Rows.{IsByTable}
use Rattle.value_texts.specs.declared.face.NumberFace.{NumberFace}
use Rattle.value_texts.specs.Faces.{number_by, IsFaceFor, IsFaceOf, IsRead}
use Rattle.value_texts.proofs.FirstMembers.{first_value}
use Rattle.value_texts.proofs.Values.{enum_number_is, leaf_number_is, shows_wide}

-- ---- the kinds that have a rule

-- a composite by the list of its members
comp_is : (n : _) (row : Row_of-Member _) → Comp (items-the_row-Member _ row) ≡ Comp' n row
unfolding kinds.out-Kind carrier.out kinds.roll-Kind carrier.roll
comp_is n row = ap Comp (sym (items_shown-the_row-Member-0 n row)) ∙ roll-out-Kind (Comp' n row)

-- the kind is a composite whose first member is a leaf that is a number
pub record IsDecimalKind (k : Kind) (leaf : LeafOf) : Type 0 where
  pub members : List Member
  pub is : k ≡ Comp members
  pub first : Member
  pub there : slice_get members 0 ≡ Some first
  pub kind : first.kind ≡ Leaf leaf
  pub single : is_number leaf.shape ≡ true

-- a kind that has the rule by the table
KindOf : Kind → Rule → Type 0
KindOf k (integer leaf) = (k ≡ Leaf leaf) × (is_number leaf.shape ≡ true)
KindOf k (integer_decimal leaf) = (k ≡ Leaf leaf) × (is_number leaf.shape ≡ true)
KindOf k (single_char leaf) = (k ≡ Leaf leaf) × (is_number leaf.shape ≡ true)
KindOf k (char_array leaf) = (k ≡ Leaf leaf) × (is_array leaf.shape ≡ true)
KindOf k (fixed_decimal leaf exponent) = IsDecimalKind k leaf
KindOf k (enum_code leaf names codes) = k ≡ Enum leaf names
KindOf k (enum_number leaf names codes) = k ≡ Enum leaf names
KindOf k (enum_boolean leaf names) = k ≡ Enum leaf names
KindOf k (floating_decimal leaf exponent) = ⊤
KindOf k (choice_set names codes) = ⊤
KindOf k (raw_data leaf) = ⊤
KindOf k (text_data leaf) = ⊤
KindOf k (day_count leaf) = ⊤
KindOf k (moment from leaf unit) = ⊤
KindOf k (month_year leaves) = ⊤
KindOf k any_text = ⊤
KindOf k (constant rule own) = ⊤

first_of : (ms : List Member) (k : Kind) (ks : List Kind) → kinds_of ms ≡ k ∷ ks → (m : Member) × (slice_get ms 0 ≡ Some m) × (m.kind ≡ k)
first_of [] k ks h = absurd cc
first_of (m ∷ ms) k ks h = (m, refl, cc)

decimal_kind : (n : _) (row : Row_of-Member _) (leaf : LeafOf) (ks : List Kind) → is_number leaf.shape ≡ true → kinds_of (items-the_row-Member _ row) ≡ Leaf leaf ∷ ks → IsDecimalKind (Comp' n row) leaf
decimal_kind n row leaf ks single h =
    let ms = items-the_row-Member _ row in
    let found = first_of ms (Leaf leaf) ks h in
    record { members = ms; is = sym (comp_is n row); first = found.0; there = found.1; kind = found.2; single = single }

kind_of : (k : Kind) (d : Datatype) (rule : Rule) → rule_of k d ≡ Some rule → KindOf k rule
unfolding KindOf
kind_of (Leaf l) d rule h =
    leaf_cases (KindOf (Leaf l)) l (record {
      whole = λ is. (refl, and_first (is_number l.shape) (not (is_char l.prim)) is);
      decimal = λ is. (refl, and_first (is_number l.shape) (not (is_char l.prim)) is);
      day = λ is. tt;
      char = λ is. (refl, and_first (is_number l.shape) (is_char l.prim) is);
      array = λ is. (refl, is);
    }) d rule h
kind_of (Enum l names) d rule h = enum_cases (KindOf (Enum l names)) l names (record { code = λ list. refl; number = λ list. refl; truth = refl }) d rule h
kind_of (Set p names) d rule h = set_cases (KindOf (Set p names)) names (λ list. tt) d rule h
kind_of (Comp' n row) d rule h =
    composite_cases (λ ks rule. kinds_of (items-the_row-Member _ row) ≡ ks → KindOf (Comp' n row) rule) (record {
      fixed = λ m e is same. decimal_kind n row m (Const (const.Num e) ∷ []) (and_first (is_number m.shape) (not (is_char m.prim)) is) same;
      floating = λ m e is also same. tt;
      counted = λ from time c u is also same. tt;
      wired = λ from time unit is also same. tt;
      month = λ y m d w a b c e same. tt;
    }) (items-the_row-Member _ row) d rule h refl
kind_of (Const c) d rule h = const_cases (KindOf (Const c)) (λ inner own can. tt) c d rule h

-- ---- what is read of their values

single_is : (s : LeafShape) → is_number s ≡ true → s ≡ Number
single_is Number h = refl
single_is RangedText h = true_false h refl
single_is EncodedText h = true_false h refl
single_is Octets h = true_false h refl
single_is Numbers h = true_false h refl

-- a number that is seen, by its face
seen_is : (q : NumberFace) (leaf : LeafOf) (bytes : List ℕ) → IsFaceOf q leaf → seen_element leaf (number_of Little leaf.prim bytes) ≡ number_by q bytes
seen_is q leaf bytes is = (λ i.
    cond (sym is.optional i && int_eq (number_of Little (sym is.prim i) bytes) (sym is.null i)) None (Some (number_of Little (sym is.prim i) bytes)))

leaf_read : (q : NumberFace) (leaf : LeafOf) (known : Bool) (v : Value) (bytes : List ℕ) → IsFaceOf q leaf → is_number leaf.shape ≡ true → Shows Little known (Leaf leaf) v bytes → number_in v ≡ number_by q bytes
leaf_read q leaf known v bytes is single h =
    leaf_number_is Little leaf v bytes (subst (λ s. ShowsLeaf Little s leaf v bytes) (single_is leaf.shape single) h.1) ∙ seen_is q leaf bytes is

-- the values of a rule's kinds are read as numbers
abbrev pub ReadsNumbers : NumberFace → Rule → Type 0
ReadsNumbers q rule = (k : Kind) (v : Value) (known : Bool) (bytes : List ℕ) → IsByTable k rule → IsKindInOrder k → Shows Little known k v bytes → IsRead q bytes → number_in v ≡ number_by q bytes

leaf_reads : (q : NumberFace) (leaf : LeafOf) (rule : Rule) → IsFaceFor q leaf → ((k : Kind) → IsByTable k rule → (k ≡ Leaf leaf) × (is_number leaf.shape ≡ true)) → ReadsNumbers q rule
leaf_reads q leaf rule face kind = λ k v known bytes table order shows read.
    let of = kind k table in
    leaf_read q leaf known v bytes (face read.read) of.1 (subst (λ k. Shows Little known k v bytes) of.0 shows)

enum_reads : (q : NumberFace) (leaf : LeafOf) (names : List Named) (rule : Rule) → IsFaceFor q leaf → ((k : Kind) → IsByTable k rule → k ≡ Enum leaf names) → ReadsNumbers q rule
enum_reads q leaf names rule face kind = λ k v known bytes table order shows read.
    enum_number_is Little known v bytes leaf names (subst (λ k. Shows Little known k v bytes) (kind k table) shows) ∙ seen_is q leaf bytes (face read.read)

pub integer_reads : (q : NumberFace) (leaf : LeafOf) → IsFaceFor q leaf → ReadsNumbers q (integer leaf)
unfolding KindOf
integer_reads q leaf face = leaf_reads q leaf (integer leaf) face (λ k table. kind_of k table.datatype (integer leaf) table.is)

pub unscaled_reads : (q : NumberFace) (leaf : LeafOf) → IsFaceFor q leaf → ReadsNumbers q (integer_decimal leaf)
unfolding KindOf
unscaled_reads q leaf face = leaf_reads q leaf (integer_decimal leaf) face (λ k table. kind_of k table.datatype (integer_decimal leaf) table.is)

pub char_reads : (q : NumberFace) (leaf : LeafOf) → IsFaceFor q leaf → ReadsNumbers q (single_char leaf)
unfolding KindOf
char_reads q leaf face = leaf_reads q leaf (single_char leaf) face (λ k table. kind_of k table.datatype (single_char leaf) table.is)

pub code_reads : (q : NumberFace) (leaf : LeafOf) (names : List Named) (list : List Code) → IsFaceFor q leaf → ReadsNumbers q (enum_code leaf names list)
unfolding KindOf
code_reads q leaf names list face = enum_reads q leaf names (enum_code leaf names list) face (λ k table. kind_of k table.datatype (enum_code leaf names list) table.is)

pub listed_reads : (q : NumberFace) (leaf : LeafOf) (names : List Named) (list : List Code) → IsFaceFor q leaf → ReadsNumbers q (enum_number leaf names list)
unfolding KindOf
listed_reads q leaf names list face = enum_reads q leaf names (enum_number leaf names list) face (λ k table. kind_of k table.datatype (enum_number leaf names list) table.is)

pub truth_reads : (q : NumberFace) (leaf : LeafOf) (own : List Named) → IsFaceFor q leaf → ReadsNumbers q (enum_boolean leaf own)
unfolding KindOf
truth_reads q leaf own face = enum_reads q leaf own (enum_boolean leaf own) face (λ k table. kind_of k table.datatype (enum_boolean leaf own) table.is)

-- ---- mantissas

-- a mantissa of as many bytes as the composite is at its beginning
mantissa_read : (q : NumberFace) (leaf : LeafOf) (k : Kind) (known : Bool) (v : Value) (bytes : List ℕ) → IsFaceOf q leaf → IsDecimalKind k leaf → IsKindInOrder k → Shows Little known k v bytes
    → length bytes ≡ prim_width q.prim → mantissa_in v ≡ number_by q bytes
mantissa_read q leaf k known v bytes is of order shows wide =
    let ms = of.members in
    let m = of.first in
    let h : Shows Little known (Comp ms) v bytes = subst (λ k. Shows Little known k v bytes) of.is shows in
    let ready : IsKindInOrder (Comp ms) = subst IsKindInOrder of.is order in
    let moves : is_const m.kind ≡ false = ap is_const of.kind in
    let long : length bytes ≡ width (Comp ms) = shows_wide Little known (Comp ms) v bytes h in
    let at = placed_member ms (length bytes) 0 m (record { order = ready; wide = long }) of.there moves in
    let own : IsKindInOrder (Leaf leaf) = subst IsKindInOrder of.kind (member_order ms 0 m ready of.there) in
    let one : leaf.length ≡ 1 = subst (λ s. IsShapeOf s leaf.prim leaf.length) (single_is leaf.shape of.single) own.parts.shape in
    let few : width m.kind ≡ prim_width leaf.prim = ap width of.kind ∙ (ap (λ n. prim_width leaf.prim * n) one ∙ omega arith) in
    let same : prim_width q.prim ≡ prim_width leaf.prim = ap prim_width is.prim in
    let first : at.place ≡ 0 = omega (arith, at.within, wide, few, same) in
    let held = first_value Little known ms m v bytes of.there h in
    let whole : bytes_at (member_place 0 ms 0) (width m.kind) bytes ≡ bytes =
    ap (λ o. bytes_at o (width m.kind) bytes) (at.there ∙ ap Some first) ∙ take_all (width m.kind) bytes (omega (arith, wide, few, same)) in
    held.first
    ∙ leaf_read q leaf known held.value bytes is of.single
    (subst (λ k. Shows Little known k held.value bytes) of.kind (subst (λ b. Shows Little known m.kind held.value b) whole held.shows))

pub decimal_reads : (q : NumberFace) (leaf : LeafOf) (exponent : ℤ) → IsFaceFor q leaf → (k : Kind) (v : Value) (known : Bool) (bytes : List ℕ) → IsByTable k (fixed_decimal leaf exponent) → IsKindInOrder k
    → Shows Little known k v bytes → IsRead q bytes → mantissa_in v ≡ number_by q bytes
unfolding KindOf
decimal_reads q leaf exponent face k v known bytes table order shows read =
    mantissa_read q leaf k known v bytes (face read.read) (kind_of k table.datatype (fixed_decimal leaf exponent) table.is) order shows read.wide

-- ---- texts

text_some : (leaf : LeafOf) (t : List ℕ) → 0 < length t → text_in (text_value leaf t) ≡ Some t
text_some leaf [] some = absurd (omega (arith, some))
text_some leaf (b ∷ bs) some = by_bool (is_optional leaf.presence)
  where
    by_bool : (s : Bool) → text_in (cond (s && false) value.Null (value.Text (b ∷ bs))) ≡ Some (b ∷ bs)
    by_bool true = refl
    by_bool false = refl

text_of_shape : (s : LeafShape) (leaf : LeafOf) (v : Value) (bytes : List ℕ) → is_array s ≡ true → ShowsLeaf Little s leaf v bytes → v ≡ text_value leaf (before_zero bytes)
text_of_shape RangedText leaf v bytes is h = text_front leaf v bytes h
text_of_shape EncodedText leaf v bytes is h = text_front leaf v bytes h
text_of_shape Number leaf v bytes is h = true_false is refl
text_of_shape Octets leaf v bytes is h = true_false is refl
text_of_shape Numbers leaf v bytes is h = true_false is refl

pub text_reads : (leaf : LeafOf) (k : Kind) (v : Value) (known : Bool) (bytes : List ℕ) → IsByTable k (char_array leaf) → IsKindInOrder k → Shows Little known k v bytes
    → 0 < length (before_zero bytes) → text_in v ≡ Some (before_zero bytes)
unfolding KindOf
text_reads leaf k v known bytes table order shows some =
    let of = kind_of k table.datatype (char_array leaf) table.is in
    let h : Shows Little known (Leaf leaf) v bytes = subst (λ k. Shows Little known k v bytes) of.0 shows in
    ap text_in (text_of_shape leaf.shape leaf v bytes of.1 h.1) ∙ text_some leaf (before_zero bytes) some
