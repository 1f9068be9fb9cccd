-- The text of the field that a value gives, or why it doesn't have one. From the FIX tag-value encoding, datatypes. Own
-- profile: nothing is rounded, and what can't be read back isn't written.
use Rattle.std.specs.Prelude.{ℕ, ◌&&◌, if◌then◌else◌, List, ℤ, Option, Some, None, Result, Ok, Err}
use Rattle.sbe_types.specs.declared.kind.Leaf.{Leaf as LeafOf}
use Rattle.sbe_types.specs.declared.message.Value.{Value}
use Rattle.sbe_types.specs.declared.kind.Primitive.TheVariants.{Char}
use Rattle.fix_values.specs.declared.rule.V.{V}
use Rattle.fix_values.specs.declared.rule.V.TheVariants as why
use Rattle.fix_values.specs.declared.rule.Dec.{Dec}
use Rattle.fix_values.specs.declared.rule.NumRule.TheVariants as spelling
use Rattle.fix_values.specs.Numerals.{is_value}
use Rattle.fix_values.specs.Decimals.{dec, decimal_of, decimal_text}
use Rattle.fix_values.specs.Codes.{code_text, set_text, boolean_shown}
use Rattle.fix_values.specs.Values.{text_of, text_shown}
use Rattle.fix_dates.specs.declared.month.MonthYear.{MonthYear}
use Rattle.date_answers.specs.Answers.{day_shown, time_shown, stamp_shown, month_shown}
use Rattle.bridge_rules.specs.Rules.{From, from_1970, from_midnight, Rule, integer, integer_decimal, fixed_decimal, floating_decimal, single_char, char_array, enum_code, enum_number, enum_boolean, choice_set, raw_data, text_data, day_count, moment, month_year, any_text, constant}
use Rattle.bridge_rules.specs.Members.{number_in, text_in, mantissa_in, second_number, members_in, bits_in, is_const, month_in, unless_empty, and_then, not_zero, unit_in}

-- an answer with a text as one with the text of a field
abbrev pub field_text : Result (List ℕ) V → Result (Option (List ℕ)) V
field_text (Ok t) = Ok (Some t)
field_text (Err v) = Err v

-- the text of a value, if it gives a field
abbrev pub text_if_any : {X : Type 0} → Option X → (X → Result (List ℕ) V) → Result (Option (List ℕ)) V
text_if_any None text = Ok None
text_if_any (Some x) text = field_text (text x)

-- a text, if it may be written
abbrev pub judged_text : List ℕ → Result Unit V → Result (List ℕ) V
judged_text t (Ok u) = Ok t
judged_text t (Err v) = Err v

-- a text, if it can be read
abbrev pub if_read : {X : Type 0} → List ℕ → Result X V → Result (List ℕ) V
if_read t (Ok x) = Ok t
if_read t (Err v) = Err why.Range

-- a text that was shown, if it can be read back
abbrev pub if_back : {X : Type 0} → (List ℕ → Result X V) → Result (List ℕ) V → Result (List ℕ) V
if_back back (Ok t) = if_read t (back t)
if_back back (Err v) = Err v

-- the numbers of a decimal, if each is one of its type
abbrev pub decimal_in_types : LeafOf → LeafOf → Result Dec V → Result Dec V
decimal_in_types mantissa exponent (Ok d) = if is_value mantissa d.mantissa && is_value exponent d.exponent then Ok d else Err why.Range
decimal_in_types mantissa exponent (Err v) = Err v

-- the text of a decimal with its exponent on the wire, if the exponent is there and the text can be read back
abbrev pub floating_text : LeafOf → LeafOf → Option ℤ → ℤ → Result (List ℕ) V
floating_text mantissa exponent None m = Err why.Range
floating_text mantissa exponent (Some e) m = if_back (λ t. decimal_in_types mantissa exponent (decimal_of t)) (decimal_text (dec m e))

-- the text of a time, if its unit is there
abbrev pub moment_text : From → Option ℕ → ℤ → Result (List ℕ) V
moment_text from None n = Err why.Range
moment_text from_1970 (Some u) n = stamp_shown u n
moment_text from_midnight (Some u) n = time_shown u n

-- the text of a month, if it is there
abbrev pub month_text : Option MonthYear → Result (List ℕ) V
month_text None = Err why.Range
month_text (Some m) = month_shown m

-- the text of a value, or that it gives no field, or why it doesn't have a text
abbrev pub text_by : Rule → Value → Result (Option (List ℕ)) V
text_by (integer leaf) v = text_if_any (number_in v) (λ n. text_of spelling.Int n)
text_by (integer_decimal leaf) v = text_if_any (number_in v) (λ n. text_of spelling.Decimal n)
text_by (fixed_decimal leaf exponent) v = text_if_any (mantissa_in v) (λ m. decimal_text (dec m exponent))
text_by (floating_decimal leaf exponent) v = text_if_any (mantissa_in v) (λ m. floating_text leaf exponent (second_number (members_in v)) m)
text_by (single_char leaf) v = text_if_any (number_in v) (λ n. text_of spelling.Char n)
text_by (char_array leaf) v = text_if_any (text_in v) (λ t. judged_text t (text_shown t))
text_by (enum_code leaf names codes) v = text_if_any (number_in v) (λ n. code_text codes n)
text_by (enum_number leaf names codes) v = text_if_any (number_in v) (λ n. code_text codes n)
text_by (enum_boolean leaf names) v = text_if_any (number_in v) (λ n. boolean_shown names n)
text_by (choice_set names codes) v = text_if_any (and_then (bits_in v) not_zero) (λ n. set_text codes n)
text_by (raw_data leaf) v = text_if_any (and_then (text_in v) unless_empty) (λ t. Ok t)
text_by (text_data leaf) v = text_if_any (and_then (text_in v) unless_empty) (λ t. judged_text t (text_shown t))
text_by (day_count leaf) v = text_if_any (number_in v) day_shown
text_by (moment from leaf unit) v = text_if_any (mantissa_in v) (λ n. moment_text from (unit_in unit v) n)
text_by (month_year leaves) v = text_if_any (mantissa_in v) (λ year. month_text (month_in (members_in v)))
text_by any_text v = text_if_any (text_in v) (λ t. judged_text t (text_shown t))
text_by (constant rule own) v = if is_const v then text_by rule own else Ok None
