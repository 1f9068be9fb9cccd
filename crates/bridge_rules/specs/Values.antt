-- The value of a field's text, or why it is refused, and the value of a part without a field. From SBE 1.0, Field
-- encoding, and the FIX tag-value encoding, datatypes. Own profile: nothing is rounded.
use Rattle.std.specs.Prelude.{ℕ, Bool, true, false, not, ◌&&◌, ◌||◌, if◌then◌else◌, List, [], ◌∷◌, length, ℤ, pos, Option, Some, None, Result, Ok, Err}
use Rattle.sbe_types.specs.declared.kind.Leaf.{Leaf as LeafOf}
use Rattle.sbe_types.specs.declared.message.Value.{Value}
use Rattle.sbe_types.specs.declared.message.Value as value
use Rattle.sbe_types.specs.declared.kind.Primitive.TheVariants.{Char}
use Rattle.sbe_types.specs.Numbers.{natural}
use Rattle.sbe_types.specs.Shown.{is_optional, admits}
use Rattle.fix_values.specs.declared.rule.V.{V}
use Rattle.fix_values.specs.declared.rule.V.TheVariants as why
use Rattle.fix_values.specs.declared.rule.Dec.{Dec}
use Rattle.fix_values.specs.declared.rule.NumRule.TheVariants as spelling
use Rattle.fix_values.specs.Numerals.{is_value}
use Rattle.fix_values.specs.Decimals.{decimal_of, fitted, leaf_number}
use Rattle.fix_values.specs.Codes.{code_number, set_number, boolean_number, has_soh}
use Rattle.fix_values.specs.Values.{value_of, text_read}
use Rattle.fix_dates.specs.declared.month.MonthYear.{MonthYear}
use Rattle.date_answers.specs.Answers.{Instant, day_read, time_read, stamp_read, in_unit, month_read, least_unit}
use Rattle.bridge_rules.specs.Rules.{From, from_1970, from_midnight, UnitBy, always, on_wire, MonthLeaves, Rule, integer, integer_decimal, fixed_decimal, floating_decimal, single_char, char_array, enum_code, enum_number, enum_boolean, choice_set, raw_data, text_data, day_count, moment, month_year, any_text, constant}
use Rattle.bridge_rules.specs.Members.{same_value, decimal_value, two_members, month_value}
use Rattle.bridge_rules.specs.Texts.{judged_text, decimal_in_types}

-- why a text isn't read: it can't be, or what it is read as isn't the constant
pub data Misread : Type 0 where
  not_read : V → Misread
  not_the_constant : Misread

-- the value made from what was read
abbrev pub value_from : {X : Type 0} → (X → Value) → Result X V → Result Value Misread
value_from make (Ok x) = Ok (make x)
value_from make (Err v) = Err (not_read v)

-- the mantissa of a decimal with a constant exponent
abbrev pub mantissa_of : LeafOf → ℤ → Result Dec V → Result ℤ V
mantissa_of leaf exponent (Ok d) = fitted d leaf exponent
mantissa_of leaf exponent (Err v) = Err v

-- bytes, if their length is admitted
abbrev pub bytes_admitted : LeafOf → List ℕ → Result (List ℕ) V
bytes_admitted leaf t = if admits leaf (pos (length t)) then Ok t else Err why.Range

-- a decimal's value with its exponent
abbrev pub floating_value : Dec → Value
floating_value d = two_members (value.Num d.mantissa) (value.Num d.exponent)

-- what a moment's text is read as
abbrev pub instant_read : From → List ℕ → Result Instant V
instant_read from_1970 t = stamp_read t
instant_read from_midnight t = time_read t

-- a time and its unit
pub record TimeCount : Type 0 where
  pub count : ℤ
  pub unit : ℕ

-- a count of a unit, if it was read
abbrev pub time_count : ℕ → Result ℤ V → Result TimeCount V
time_count unit (Ok n) = Ok (record { count = n; unit = unit })
time_count unit (Err v) = Err v

-- a time whose unit is on the wire, if the unit's type admits it
abbrev pub unit_admitted : LeafOf → Result TimeCount V → Result TimeCount V
unit_admitted leaf (Ok x) = if is_value leaf (pos x.unit) then Ok x else Err why.Range
unit_admitted leaf (Err v) = Err v

-- an instant in the unit of the part: the constant one, or the coarsest one with a place for each digit
abbrev pub in_unit_of : LeafOf → UnitBy → Result Instant V → Result TimeCount V
in_unit_of leaf unit (Err v) = Err v
in_unit_of leaf (always u) (Ok i) = time_count u (leaf_number leaf (in_unit i.nanos u))
in_unit_of leaf (on_wire l) (Ok i) = unit_admitted l (time_count (least_unit i.digits) (leaf_number leaf (in_unit i.nanos (least_unit i.digits))))

-- a moment's value
abbrev pub moment_value : UnitBy → TimeCount → Value
moment_value (always u) x = two_members (value.Num x.count) value.Const
moment_value (on_wire leaf) x = two_members (value.Num x.count) (value.Num (pos x.unit))

-- a number is one of the type's, or there is none and the type is optional
abbrev pub is_value_or_none : LeafOf → Option ℤ → Bool
is_value_or_none leaf None = is_optional leaf.presence
is_value_or_none leaf (Some n) = is_value leaf n

-- each number of a month is one of its type
abbrev pub is_month_of : MonthLeaves → MonthYear → Bool
is_month_of leaves m = is_value leaves.year m.year && (is_value leaves.month m.month && (is_value_or_none leaves.day m.day && is_value_or_none leaves.week m.week))

-- a month, if the types of its parts admit it
abbrev pub month_admitted : MonthLeaves → Result MonthYear V → Result MonthYear V
month_admitted leaves (Ok m) = if is_month_of leaves m then Ok m else Err why.Range
month_admitted leaves (Err v) = Err v

-- a constant, if what was read is its value
abbrev pub if_constant : Value → Result Value Misread → Result Value Misread
if_constant own (Ok v) = if same_value own v then Ok value.Const else Err not_the_constant
if_constant own (Err why) = Err why

-- the value that a text is read as
abbrev pub value_in : Rule → List ℕ → Result Value Misread
value_in (integer leaf) t = value_from value.Num (value_of spelling.Int leaf t)
value_in (integer_decimal leaf) t = value_from value.Num (value_of spelling.Decimal leaf t)
value_in (fixed_decimal leaf exponent) t = value_from (λ m. decimal_value (value.Num m)) (mantissa_of leaf exponent (decimal_of t))
value_in (floating_decimal leaf exponent) t = value_from floating_value (decimal_in_types leaf exponent (decimal_of t))
value_in (single_char leaf) t = value_from value.Num (value_of spelling.Char leaf t)
value_in (char_array leaf) t = value_from value.Text (judged_text t (text_read leaf t))
value_in (enum_code leaf names codes) t = value_from value.Enum (code_number codes leaf t)
value_in (enum_number leaf names codes) t = value_from value.Enum (code_number codes leaf t)
value_in (enum_boolean leaf names) t = value_from value.Enum (boolean_number names leaf t)
value_in (choice_set names codes) t = value_from (λ n. value.Set (natural n)) (set_number codes t)
value_in (raw_data leaf) t = value_from value.Text (bytes_admitted leaf t)
value_in (text_data leaf) t = value_from value.Text (bytes_admitted leaf t)
value_in (day_count leaf) t = value_from value.Num (leaf_number leaf (day_read t))
value_in (moment from leaf unit) t = value_from (moment_value unit) (in_unit_of leaf unit (instant_read from t))
value_in (month_year leaves) t = value_from month_value (month_admitted leaves (month_read t))
value_in any_text t = Ok (value.Text t)
value_in (constant rule own) t = if_constant own (value_in rule t)

-- the text may contain SOH
abbrev pub has_any_byte : Rule → Bool
has_any_byte (raw_data leaf) = true
has_any_byte (integer leaf) = false
has_any_byte (integer_decimal leaf) = false
has_any_byte (fixed_decimal leaf exponent) = false
has_any_byte (floating_decimal leaf exponent) = false
has_any_byte (single_char leaf) = false
has_any_byte (char_array leaf) = false
has_any_byte (enum_code leaf names codes) = false
has_any_byte (enum_number leaf names codes) = false
has_any_byte (enum_boolean leaf names) = false
has_any_byte (choice_set names codes) = false
has_any_byte (text_data leaf) = false
has_any_byte (day_count leaf) = false
has_any_byte (moment from leaf unit) = false
has_any_byte (month_year leaves) = false
has_any_byte any_text = false
has_any_byte (constant rule own) = has_any_byte rule

-- a text that a field can have: never empty, and without SOH unless the rule allows any byte
abbrev pub is_given : Rule → List ℕ → Bool
is_given rule [] = false
is_given rule (b ∷ bs) = has_any_byte rule || not (has_soh (b ∷ bs))

-- the value of a field's text, or why it can't be read
abbrev pub value_by : Rule → List ℕ → Result Value Misread
value_by rule t = if is_given rule t then value_in rule t else Err (not_read why.Spelling)

-- a value, if the leaf is optional
abbrev pub if_optional : LeafOf → Value → Option Value
if_optional leaf v = if is_optional leaf.presence then Some v else None

-- the value of a member after a null one: null, or 0, or its least number
abbrev pub least_or_null : LeafOf → Value
least_or_null leaf = if is_optional leaf.presence then value.Null else value.Num (if admits leaf (pos 0) then pos 0 else leaf.low)

-- the unit after a null time
abbrev pub unit_of_null : UnitBy → Value
unit_of_null (always u) = value.Const
unit_of_null (on_wire leaf) = least_or_null leaf

-- a month without a year
abbrev pub null_month : MonthLeaves → Value
null_month leaves = value.Comp (value.Null ∷ least_or_null leaves.month ∷ least_or_null leaves.day ∷ least_or_null leaves.week ∷ [])

-- empty data, if the length 0 is admitted
abbrev pub empty_if_admitted : LeafOf → Option Value
empty_if_admitted leaf = if admits leaf (pos 0) then Some (value.Text []) else None

-- the value of a part without a field, if there is one
abbrev pub missing_by : Rule → Option Value
missing_by (integer leaf) = if_optional leaf value.Null
missing_by (integer_decimal leaf) = if_optional leaf value.Null
missing_by (fixed_decimal leaf exponent) = if_optional leaf (decimal_value value.Null)
missing_by (floating_decimal leaf exponent) = if_optional leaf (two_members value.Null (least_or_null exponent))
missing_by (single_char leaf) = if_optional leaf value.Null
missing_by (char_array leaf) = if_optional leaf value.Null
missing_by (enum_code leaf names codes) = if_optional leaf value.Null
missing_by (enum_number leaf names codes) = if_optional leaf value.Null
missing_by (enum_boolean leaf names) = if_optional leaf value.Null
missing_by (choice_set names codes) = Some (value.Set 0)
missing_by (raw_data leaf) = empty_if_admitted leaf
missing_by (text_data leaf) = empty_if_admitted leaf
missing_by (day_count leaf) = if_optional leaf value.Null
missing_by (moment from leaf unit) = if_optional leaf (two_members value.Null (unit_of_null unit))
missing_by (month_year leaves) = if_optional leaves.year (null_month leaves)
missing_by any_text = None
missing_by (constant rule own) = None
