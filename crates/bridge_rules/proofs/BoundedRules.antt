-- Each rule whose types and codes are as those of a checked schema keeps what the laws of messages ask.
use Rattle.std.proofs.Common.{◌≡◌, ◌^◌, ◌<◌, true, arith, ℤ, FitsSigned}
use Rattle.std.specs.Prelude.{unsigned_abs}
use Rattle.std.specs.Int.{w128}
use Rattle.sbe_types.specs.declared.kind.Leaf.{Leaf as LeafOf}
use Rattle.fix_values.specs.Numerals.{is_value}
use Rattle.bridge_rules.specs.Rules.{Rule, integer, integer_decimal, fixed_decimal, floating_decimal, single_char, char_array, enum_code, enum_number, enum_boolean, choice_set, raw_data, text_data, day_count, moment, month_year, any_text, constant}
use Rattle.bridge_rules.specs.Sound.{IsSound, ShowsGood}
use Rattle.bridge_rules.specs.Bounds.{IsBounded, IsShort, CanShow}
use Rattle.bridge_rules.proofs.PlainRules.{integer_sound, fixed_decimal_sound, char_array_sound}
use Rattle.bridge_rules.proofs.CodeRules.{raw_data_sound, enum_code_sound}
use Rattle.bridge_rules.proofs.SoundRules.{integer_decimal_sound, floating_decimal_sound, single_char_sound, enum_number_sound, enum_boolean_sound, text_data_sound, day_count_sound, month_year_sound, any_text_sound, constant_sound}
use Rattle.bridge_rules.proofs.Moments.{moment_sound}
use Rattle.bridge_rules.proofs.Sets.{choice_set_sound}
use Rattle.bridge_rules.proofs.ShownTexts.{integer_shown, fixed_decimal_shown, char_array_shown, raw_data_shown, enum_code_shown}
use Rattle.bridge_rules.proofs.ReadBack.{integer_decimal_shown, floating_decimal_shown, single_char_shown, enum_number_shown, enum_boolean_shown, choice_set_shown, text_data_shown, any_text_shown, constant_shown}
use Rattle.bridge_rules.proofs.DateTexts.{day_count_shown, moment_shown, month_year_shown}

pub bounded_sound : (rule : Rule) → IsBounded rule → IsSound rule
bounded_sound (integer leaf) b = integer_sound leaf
bounded_sound (integer_decimal leaf) b = integer_decimal_sound leaf b
bounded_sound (fixed_decimal leaf exponent) b = fixed_decimal_sound leaf exponent b
bounded_sound (floating_decimal leaf exponent) b = floating_decimal_sound leaf exponent b
bounded_sound (single_char leaf) b = single_char_sound leaf b
bounded_sound (char_array leaf) b = char_array_sound leaf
bounded_sound (enum_code leaf names codes) b = enum_code_sound leaf names codes b
bounded_sound (enum_number leaf names codes) b = enum_number_sound leaf names codes b.0 b.1
bounded_sound (enum_boolean leaf names) b = enum_boolean_sound leaf names b
bounded_sound (choice_set names codes) b = choice_set_sound names codes b.0 b.1
bounded_sound (raw_data leaf) b = raw_data_sound leaf
bounded_sound (text_data leaf) b = text_data_sound leaf
bounded_sound (day_count leaf) b = day_count_sound leaf
bounded_sound (moment from leaf unit) b = moment_sound from leaf unit
bounded_sound (month_year leaves) b = month_year_sound leaves
bounded_sound any_text b = any_text_sound
bounded_sound (constant rule own) b = constant_sound rule own b.1.item (bounded_sound rule b.0) b.1.good b.1.has b.1.same

short_own : (leaf : LeafOf) → IsShort leaf → (n : ℤ) → is_value leaf n ≡ true → FitsSigned w128 n × (unsigned_abs n < 10 ^ 39)
short_own leaf short n is = let own = short n is in (own.0, omega (arith, own.1))

pub bounded_shown : (rule : Rule) → IsBounded rule → CanShow rule → ShowsGood rule
bounded_shown (integer leaf) b s = integer_shown leaf (λ n is. (s n is).0)
bounded_shown (integer_decimal leaf) b s = integer_decimal_shown leaf b s
bounded_shown (fixed_decimal leaf exponent) b s = fixed_decimal_shown leaf exponent (short_own leaf s)
bounded_shown (floating_decimal leaf exponent) b s = floating_decimal_shown leaf exponent b s
bounded_shown (single_char leaf) b s = single_char_shown leaf b
bounded_shown (char_array leaf) b s = char_array_shown leaf
bounded_shown (enum_code leaf names codes) b s = enum_code_shown leaf names codes s
bounded_shown (enum_number leaf names codes) b s = enum_number_shown leaf names codes b.0 b.1 s
bounded_shown (enum_boolean leaf names) b s = enum_boolean_shown leaf names b
bounded_shown (choice_set names codes) b s = choice_set_shown names codes b.0 b.1
bounded_shown (raw_data leaf) b s = raw_data_shown leaf
bounded_shown (text_data leaf) b s = text_data_shown leaf
bounded_shown (day_count leaf) b s = day_count_shown leaf
bounded_shown (moment from leaf unit) b s = moment_shown from leaf unit
bounded_shown (month_year leaves) b s = month_year_shown leaves
bounded_shown any_text b s = any_text_shown
bounded_shown (constant rule own) b s = constant_shown rule own s
