-- Values that texts are read as, and whether they have a text again. Own profile.
use Rattle.std.specs.Prelude.{◌≡◌, ◌⊎◌, ℕ, ◌<◌, ◌^◌, Bool, true, false, not, ◌&&◌, ⊤, IsTrue, List, ℤ, neg_ℤ, int_le, unsigned_abs, Option, Some, None, Ok, Err, FitsSigned}
use Rattle.std.specs.Int.{w128}
use Rattle.sbe_types.specs.declared.kind.Leaf.{Leaf as LeafOf}
use Rattle.sbe_types.specs.declared.message.Value.{Value}
use Rattle.fix_values.specs.declared.rule.V.TheVariants as why
use Rattle.fix_values.specs.declared.decimal.TheConstants.{MOST_EXPONENT}
use Rattle.fix_values.specs.Numerals.{is_value}
use Rattle.date_answers.specs.Answers.{is_unit}
use Rattle.bridge_rules.specs.Rules.{UnitBy, always, on_wire, Rule, integer, integer_decimal, fixed_decimal, floating_decimal, single_char, char_array, enum_code, enum_number, enum_boolean, choice_set, raw_data, text_data, day_count, moment, month_year, any_text, constant}
use Rattle.bridge_rules.specs.Members.{members_in, second_number}
use Rattle.bridge_rules.specs.Texts.{text_by}
use Rattle.bridge_rules.specs.Values.{value_by, missing_by}

-- a value that a text is read as, or that a part has without a field
abbrev pub IsOfText : Rule → Value → Type 0
IsOfText rule v = ((t : List ℕ) × (value_by rule t ≡ Ok v)) ⊎ (missing_by rule ≡ Some v)

-- the exponent is outside the range in which decimals are shown
abbrev pub is_far : ℤ → Bool
is_far e = not (int_le (neg_ℤ MOST_EXPONENT) e && int_le e MOST_EXPONENT)

-- the same for an exponent that may be null; a null isn't outside
abbrev pub is_far_or_none : Option ℤ → Bool
is_far_or_none None = false
is_far_or_none (Some e) = is_far e

-- the value is a decimal whose exponent is outside the range in which decimals are shown
abbrev pub has_far_exponent : Rule → Value → Bool
has_far_exponent (fixed_decimal leaf exponent) v = is_far exponent
has_far_exponent (floating_decimal leaf exponent) v = is_far_or_none (second_number (members_in v))
has_far_exponent (integer leaf) v = false
has_far_exponent (integer_decimal leaf) v = false
has_far_exponent (single_char leaf) v = false
has_far_exponent (char_array leaf) v = false
has_far_exponent (enum_code leaf names codes) v = false
has_far_exponent (enum_number leaf names codes) v = false
has_far_exponent (enum_boolean leaf names) v = false
has_far_exponent (choice_set names codes) v = false
has_far_exponent (raw_data leaf) v = false
has_far_exponent (text_data leaf) v = false
has_far_exponent (day_count leaf) v = false
has_far_exponent (moment from leaf unit) v = false
has_far_exponent (month_year leaves) v = false
has_far_exponent any_text v = false
has_far_exponent (constant rule own) v = has_far_exponent rule own

-- the value has a text or gives no field, unless it is refused because of its exponent
abbrev pub IsAgain : Rule → Value → Type 0
IsAgain rule v = ((o : Option (List ℕ)) × (text_by rule v ≡ Ok o)) ⊎ (IsTrue (has_far_exponent rule v) × (text_by rule v ≡ Err why.Range))

-- the same for each value that a text is read as, or that a part has without a field
abbrev pub HasText : Rule → Type 0
HasText rule = (v : Value) → IsOfText rule v → IsAgain rule v

-- each number of the type fits 64 bits
abbrev pub IsWord : LeafOf → Type 0
IsWord leaf = (n : ℤ) → is_value leaf n ≡ true → FitsSigned w128 n × (unsigned_abs n < 2 ^ 64)

-- a constant unit is one that texts have
abbrev pub HasUnit : UnitBy → Type 0
HasUnit (always u) = is_unit u ≡ true
HasUnit (on_wire leaf) = ⊤

-- what else is required of a rule, so that texts are written again: mantissas of 64 bits, and a unit that texts have
abbrev pub CanRepeat : Rule → Type 0
CanRepeat (fixed_decimal leaf exponent) = IsWord leaf
CanRepeat (floating_decimal leaf exponent) = IsWord leaf
CanRepeat (moment from leaf unit) = HasUnit unit
CanRepeat (integer leaf) = ⊤
CanRepeat (integer_decimal leaf) = ⊤
CanRepeat (single_char leaf) = ⊤
CanRepeat (char_array leaf) = ⊤
CanRepeat (enum_code leaf names codes) = ⊤
CanRepeat (enum_number leaf names codes) = ⊤
CanRepeat (enum_boolean leaf names) = ⊤
CanRepeat (choice_set names codes) = ⊤
CanRepeat (raw_data leaf) = ⊤
CanRepeat (text_data leaf) = ⊤
CanRepeat (day_count leaf) = ⊤
CanRepeat (month_year leaves) = ⊤
CanRepeat any_text = ⊤
CanRepeat (constant rule own) = CanRepeat rule
