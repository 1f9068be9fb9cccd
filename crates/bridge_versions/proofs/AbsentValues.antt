-- A value that is absent gives no field and has no item, and a text is read without the field unless the part is needed.
use Rattle.std.proofs.Common.{◌≡◌, inl, inr, Bool, true, false, List, [], ◌∷◌, Some, None, Ok, refl, sym, ◌∙◌, subst, pos}
use Rattle.std.specs.Prelude.{not}
use Rattle.sbe_types.specs.declared.kind.Leaf.{Leaf as LeafOf}
use Rattle.sbe_types.specs.declared.kind.Kind.{Kind, Leaf, Enum, Set, Const, Comp', Row_of-Member, end_of-Member, more_of-Member, items-the_row-Member}
use Rattle.sbe_types.specs.declared.message.Value.{Value}
use Rattle.sbe_types.specs.declared.message.Value as value
use Rattle.sbe_types.specs.declared.schema.DataField.{DataField}
use Rattle.sbe_types.specs.Shown.{is_optional, admits}
use Rattle.bridge_rules.specs.Rules.{Rule, integer, integer_decimal, fixed_decimal, floating_decimal, single_char, char_array, enum_code, enum_number, enum_boolean, choice_set, raw_data, text_data, day_count, moment, month_year, any_text, constant}
use Rattle.bridge_rules.specs.Datatypes.{Datatype, whole_number, decimal_number, character, text, boolean, timestamp, time_of_day, calendar_day, month_of_year, raw, code_set, character_set, unbridged}
use Rattle.bridge_rules.specs.Members.{decimal_value, two_members}
use Rattle.bridge_rules.specs.Texts.{text_by}
use Rattle.bridge_rules.specs.Items.{item_by}
use Rattle.bridge_rules.specs.Values.{missing_by, if_optional, least_or_null, null_month, empty_if_admitted}
use Rattle.bridge_rules.specs.Sound.{IsShown, IsReadable}
use Rattle.bridge_rules.specs.Table.{kinds_of, rule_of, data_rule}
use Rattle.bridge_rules.proofs.OptionLemmas.{some_is, none_some, if_some}
use Rattle.bridge_rules.proofs.BoolLemmas.{true_false, either, not_true, if_true, if_false}
use Rattle.bridge_rules.proofs.PlainRules.{optional_so}
use Rattle.bridge_rules.proofs.ShownTexts.{ok_none}
use Rattle.bridge_rules.proofs.ReadBack.{none_shown}
use Rattle.bridge_rules.proofs.TableCases.{leaf_cases, enum_cases, set_cases, OfComposite, composite_cases, const_cases}
use Rattle.bridge_versions.specs.Needed.{is_needed, is_first_needed}

-- ---- what is written

absent_text : (rule : Rule) → text_by rule value.Absent ≡ Ok None
absent_text (integer leaf) = refl
absent_text (integer_decimal leaf) = refl
absent_text (fixed_decimal leaf exponent) = refl
absent_text (floating_decimal leaf exponent) = refl
absent_text (single_char leaf) = refl
absent_text (char_array leaf) = refl
absent_text (enum_code leaf names codes) = refl
absent_text (enum_number leaf names codes) = refl
absent_text (enum_boolean leaf names) = refl
absent_text (choice_set names codes) = refl
absent_text (raw_data leaf) = refl
absent_text (text_data leaf) = refl
absent_text (day_count leaf) = refl
absent_text (moment from leaf unit) = refl
absent_text (month_year leaves) = refl
absent_text any_text = refl
absent_text (constant rule own) = refl

pub absent_item : (rule : Rule) → item_by rule value.Absent ≡ None
absent_item (integer leaf) = refl
absent_item (integer_decimal leaf) = refl
absent_item (fixed_decimal leaf exponent) = refl
absent_item (floating_decimal leaf exponent) = refl
absent_item (single_char leaf) = refl
absent_item (char_array leaf) = refl
absent_item (enum_code leaf names codes) = refl
absent_item (enum_number leaf names codes) = refl
absent_item (enum_boolean leaf names) = refl
absent_item (choice_set names codes) = refl
absent_item (raw_data leaf) = refl
absent_item (text_data leaf) = refl
absent_item (day_count leaf) = refl
absent_item (moment from leaf unit) = refl
absent_item (month_year leaves) = refl
absent_item any_text = refl
absent_item (constant rule own) = refl

pub absent_shown : (rule : Rule) → IsShown rule value.Absent
absent_shown rule = none_shown rule value.Absent (absent_text rule) (absent_item rule)

-- a part may be without a field
abbrev pub MayMiss : Rule → Type 0
MayMiss rule = (w : Value) × (missing_by rule ≡ Some w)

pub absent_read : (rule : Rule) → MayMiss rule → IsReadable rule value.Absent
absent_read rule may = record { read = λ t h. ok_none (sym (absent_text rule) ∙ h); missed = λ h. may }

-- ---- parts that aren't needed

optional_is : (t : Bool) → not t ≡ false → t ≡ true
optional_is true h = refl
optional_is false h = sym h

-- the null of an optional part
if_null : (leaf : LeafOf) (v : Value) → not (is_optional leaf.presence) ≡ false → (w : Value) × (if_optional leaf v ≡ Some w)
if_null leaf v h = (v, optional_so leaf v (optional_is (is_optional leaf.presence) h))

-- the first of a composite's kinds is needed
abbrev is_head_needed : List Kind → Bool
is_head_needed [] = false
is_head_needed (k ∷ ks) = is_needed k

first_same : {n : _} (row : Row_of-Member n) → is_first_needed row ≡ is_head_needed (kinds_of (items-the_row-Member n row))
first_same end_of-Member = refl
first_same (more_of-Member name offset kind rest) = refl

abbrev MembersMayMiss : List Kind → Rule → Type 0
MembersMayMiss ks rule = is_head_needed ks ≡ false → MayMiss rule

of_members : OfComposite MembersMayMiss
of_members = record {
  fixed = λ m e is h. if_null m (decimal_value value.Null) h;
  floating = λ m e is so h. if_null m (two_members value.Null (least_or_null e)) h;
  counted = λ from time c u is unit h. if_null time (two_members value.Null value.Const) h;
  wired = λ from time unit is so h. if_null time (two_members value.Null (least_or_null unit)) h;
  month = λ y m d w is so day week h. if_null y (null_month (record { year = y; month = m; day = d; week = w })) h;
}

pub kind_misses : (k : Kind) (d : Datatype) (rule : Rule) → rule_of k d ≡ Some rule → is_needed k ≡ false → MayMiss rule
kind_misses (Leaf l) d rule h needed =
    let null = if_null l value.Null needed in
    leaf_cases MayMiss l (record { whole = λ is. null; decimal = λ is. null; day = λ is. null; char = λ is. null; array = λ is. null }) d rule h
kind_misses (Enum l names) d rule h needed =
    let null = if_null l value.Null needed in
    enum_cases MayMiss l names (record { code = λ list. null; number = λ list. null; truth = null }) d rule h
kind_misses (Set p names) d rule h needed = set_cases MayMiss names (λ list. (value.Set 0, refl)) d rule h
kind_misses (Const c) d rule h needed = true_false refl needed
kind_misses (Comp' n members) d rule h needed = composite_cases MembersMayMiss of_members (items-the_row-Member _ members) d rule h (sym (first_same members) ∙ needed)

-- ---- parts that are needed

-- there is no value without a field
no_null : (leaf : LeafOf) (v : Value) → not (is_optional leaf.presence) ≡ true → if_optional leaf v ≡ None
no_null leaf v h = if_false (is_optional leaf.presence) (Some v) None (not_true (is_optional leaf.presence) h)

abbrev MembersNever : List Kind → Rule → Type 0
MembersNever ks rule = is_head_needed ks ≡ true → missing_by rule ≡ None

never_members : OfComposite MembersNever
never_members = record {
  fixed = λ m e is h. no_null m (decimal_value value.Null) h;
  floating = λ m e is so h. no_null m (two_members value.Null (least_or_null e)) h;
  counted = λ from time c u is unit h. no_null time (two_members value.Null value.Const) h;
  wired = λ from time unit is so h. no_null time (two_members value.Null (least_or_null unit)) h;
  month = λ y m d w is so day week h. no_null y (null_month (record { year = y; month = m; day = d; week = w })) h;
}

kind_never : (k : Kind) (d : Datatype) (rule : Rule) → rule_of k d ≡ Some rule → is_needed k ≡ true → missing_by rule ≡ None
kind_never (Leaf l) d rule h needed =
    let none = no_null l value.Null needed in
    leaf_cases (λ rule. missing_by rule ≡ None) l (record { whole = λ is. none; decimal = λ is. none; day = λ is. none; char = λ is. none; array = λ is. none }) d rule h
kind_never (Enum l names) d rule h needed =
    let none = no_null l value.Null needed in
    enum_cases (λ rule. missing_by rule ≡ None) l names (record { code = λ list. none; number = λ list. none; truth = none }) d rule h
kind_never (Set p names) d rule h needed = true_false needed refl
kind_never (Const c) d rule h needed = const_cases (λ rule. missing_by rule ≡ None) (λ inner own repeats. refl) c d rule h
kind_never (Comp' n members) d rule h needed = composite_cases MembersNever never_members (items-the_row-Member _ members) d rule h (sym (first_same members) ∙ needed)

-- a part that may be missing isn't needed
pub kind_spared : (k : Kind) (d : Datatype) (rule : Rule) → rule_of k d ≡ Some rule → MayMiss rule → is_needed k ≡ false
kind_spared k d rule h may = elim (either (is_needed k)) [
  | inl t ↦ none_some (sym (kind_never k d rule h t) ∙ may.1)
  | inr f ↦ f
]

-- ---- data

-- what holds of both rules of data holds of the rule of a part
pub data_cases : (P : Rule → Type 0) (d : DataField) → P (raw_data d.length) → P (text_data d.length) → (kind : Datatype) (rule : Rule) → data_rule d kind ≡ Some rule → P rule
data_cases P d as_raw as_text raw rule h = subst P (some_is h) as_raw
data_cases P d as_raw as_text text rule h = subst P (some_is h) as_text
data_cases P d as_raw as_text whole_number rule h = none_some h
data_cases P d as_raw as_text decimal_number rule h = none_some h
data_cases P d as_raw as_text character rule h = none_some h
data_cases P d as_raw as_text boolean rule h = none_some h
data_cases P d as_raw as_text timestamp rule h = none_some h
data_cases P d as_raw as_text time_of_day rule h = none_some h
data_cases P d as_raw as_text calendar_day rule h = none_some h
data_cases P d as_raw as_text month_of_year rule h = none_some h
data_cases P d as_raw as_text (code_set cs) rule h = none_some h
data_cases P d as_raw as_text (character_set cs) rule h = none_some h
data_cases P d as_raw as_text unbridged rule h = none_some h

pub data_misses : (d : DataField) (kind : Datatype) (rule : Rule) → data_rule d kind ≡ Some rule → admits d.length (pos 0) ≡ true → MayMiss rule
data_misses d kind rule h admitted =
    let empty : (w : Value) × (empty_if_admitted d.length ≡ Some w) = (value.Text [], if_true (admits d.length (pos 0)) (Some (value.Text [])) None admitted) in
    data_cases MayMiss d empty empty kind rule h

-- data that may be missing may be empty
pub data_spared : (d : DataField) (kind : Datatype) (rule : Rule) → data_rule d kind ≡ Some rule → MayMiss rule → admits d.length (pos 0) ≡ true
data_spared d kind rule h =
    let empty : (w : Value) × (empty_if_admitted d.length ≡ Some w) → admits d.length (pos 0) ≡ true = λ may. (if_some (admits d.length (pos 0)) (Some (value.Text [])) may.0 may.1).0 in
    data_cases (λ r. MayMiss r → admits d.length (pos 0) ≡ true) d empty empty kind rule h
