-- The values that fit their part and are in the one form of their item: each value that is read of a text is one. By a
-- law, they are those of FitsKind that are in this form.
use Rattle.std.specs.Prelude.{◌≡◌, ◌⊎◌, ℕ, ◌^◌, Bool, true, false, not, ◌&&◌, ◌==◌, nat_lt, List, length, IsTrue, pos, Result, Ok, Err, ⊤}
use Rattle.sbe_types.specs.declared.kind.Leaf.{Leaf as LeafOf}
use Rattle.sbe_types.specs.declared.kind.Named.{Named}
use Rattle.sbe_types.specs.declared.message.Value.{Value}
use Rattle.sbe_types.specs.declared.message.Value as value
use Rattle.sbe_types.specs.Shown.{is_optional, admits, is_listed, is_null, has_listed_bits}
use Rattle.sbe_types.specs.Shows.{is_empty}
use Rattle.fix_values.specs.declared.rule.V.{V}
use Rattle.fix_values.specs.declared.rule.Dec.{Dec}
use Rattle.fix_values.specs.Numerals.{is_value}
use Rattle.fix_values.specs.Decimals.{IsReduced}
use Rattle.fix_values.specs.Values.{text_read}
use Rattle.fix_dates.specs.declared.month.MonthYear.{MonthYear}
use Rattle.date_answers.specs.Answers.{is_unit}
use Rattle.bridge_rules.specs.Rules.{UnitBy, always, on_wire, Rule, integer, integer_decimal, fixed_decimal, floating_decimal, single_char, char_array, enum_code, enum_number, enum_boolean, choice_set, raw_data, text_data, day_count, moment, month_year, any_text, constant}
use Rattle.bridge_rules.specs.Members.{decimal_value, two_members, month_value}
use Rattle.bridge_rules.specs.Values.{TimeCount, floating_value, moment_value, is_month_of, least_or_null, unit_of_null, null_month}

-- a value made of something for which the test holds, or null if the leaf is optional
abbrev pub IsMadeOrNull : {X : Type 0} → LeafOf → (X → Value) → Value → (X → Bool) → Value → Type 0
IsMadeOrNull {X} leaf make null test v = ((x : X) × (v ≡ make x) × IsTrue (test x)) ⊎ ((v ≡ null) × IsTrue (is_optional leaf.presence))

-- the answer isn't a refusal
abbrev pub is_ok : Result Unit V → Bool
is_ok (Ok u) = true
is_ok (Err v) = false

-- the text may be that of the array; an empty one would be the null of an optional array
abbrev pub is_text_of : LeafOf → List ℕ → Bool
is_text_of leaf t = is_ok (text_read leaf t) && not (is_optional leaf.presence && is_empty t)

-- the number has 64 bits, and each bit that is set is a choice
abbrev pub is_set_of : List Named → ℕ → Bool
is_set_of names n = nat_lt n (2 ^ 64) && has_listed_bits names 64 n

-- a decimal of these types, whose mantissa isn't a multiple of ten
pub record IsFloating (mantissa exponent : LeafOf) (v : Value) : Type 0 where
  pub number : Dec
  pub is : v ≡ floating_value number
  pub of_mantissa : IsTrue (is_value mantissa number.mantissa)
  pub of_exponent : IsTrue (is_value exponent number.exponent)
  pub reduced : IsReduced number

-- a unit that a part may have
abbrev pub has_unit : UnitBy → ℕ → Bool
has_unit (always u) unit = u == unit
has_unit (on_wire leaf) unit = is_value leaf (pos unit) && is_unit unit

-- the value fits its part, and is in the one form of its item
abbrev pub Good : Rule → Value → Type 0
Good (integer leaf) v = IsMadeOrNull leaf value.Num value.Null (is_value leaf) v
Good (integer_decimal leaf) v = IsMadeOrNull leaf value.Num value.Null (is_value leaf) v
Good (fixed_decimal leaf exponent) v = IsMadeOrNull leaf (λ m. decimal_value (value.Num m)) (decimal_value value.Null) (is_value leaf) v
Good (floating_decimal leaf exponent) v = IsFloating leaf exponent v ⊎ ((v ≡ two_members value.Null (least_or_null exponent)) × IsTrue (is_optional leaf.presence))
Good (single_char leaf) v = IsMadeOrNull leaf value.Num value.Null (is_value leaf) v
Good (char_array leaf) v = IsMadeOrNull leaf value.Text value.Null (is_text_of leaf) v
Good (enum_code leaf names codes) v = IsMadeOrNull leaf value.Enum value.Null (λ n. is_listed names n && not (is_null leaf n)) v
Good (enum_number leaf names codes) v = IsMadeOrNull leaf value.Enum value.Null (λ n. is_listed names n && not (is_null leaf n)) v
Good (enum_boolean leaf names) v = IsMadeOrNull leaf value.Enum value.Null (λ n. is_listed names n && not (is_null leaf n)) v
Good (choice_set names codes) v = (n : ℕ) × (v ≡ value.Set n) × IsTrue (is_set_of names n)
Good (raw_data leaf) v = (t : List ℕ) × (v ≡ value.Text t) × IsTrue (admits leaf (pos (length t)))
Good (text_data leaf) v = (t : List ℕ) × (v ≡ value.Text t) × IsTrue (admits leaf (pos (length t)))
Good (day_count leaf) v = IsMadeOrNull leaf value.Num value.Null (is_value leaf) v
Good (moment from leaf unit) v = IsMadeOrNull leaf (moment_value unit) (two_members value.Null (unit_of_null unit)) (λ x. is_value leaf x.count && has_unit unit x.unit) v
Good (month_year leaves) v = IsMadeOrNull leaves.year month_value (null_month leaves) (is_month_of leaves) v
Good any_text v = (t : List ℕ) × (v ≡ value.Text t)
Good (constant rule own) v = v ≡ value.Const

-- the value of a decimal or a moment with its exponent or unit on the wire, or of a month, is in the one form of its
-- item: a mantissa isn't a multiple of ten, a unit is one that texts have, and a null is followed by the least members
abbrev pub IsItemForm : Rule → Value → Type 0
IsItemForm (floating_decimal leaf exponent) v = (v ≡ two_members value.Null (least_or_null exponent)) ⊎ ((d : Dec) × (v ≡ floating_value d) × IsReduced d)
IsItemForm (moment from leaf (on_wire unit)) v =
    (v ≡ two_members value.Null (least_or_null unit)) ⊎ ((x : TimeCount) × (v ≡ moment_value (on_wire unit) x) × IsTrue (is_unit x.unit))
IsItemForm (moment from leaf (always u)) v = ⊤
IsItemForm (month_year leaves) v = (v ≡ null_month leaves) ⊎ ((m : MonthYear) × (v ≡ month_value m))
IsItemForm (integer leaf) v = ⊤
IsItemForm (integer_decimal leaf) v = ⊤
IsItemForm (fixed_decimal leaf exponent) v = ⊤
IsItemForm (single_char leaf) v = ⊤
IsItemForm (char_array leaf) v = ⊤
IsItemForm (enum_code leaf names codes) v = ⊤
IsItemForm (enum_number leaf names codes) v = ⊤
IsItemForm (enum_boolean leaf names) v = ⊤
IsItemForm (choice_set names codes) v = ⊤
IsItemForm (raw_data leaf) v = ⊤
IsItemForm (text_data leaf) v = ⊤
IsItemForm (day_count leaf) v = ⊤
IsItemForm any_text v = ⊤
IsItemForm (constant rule own) v = ⊤
