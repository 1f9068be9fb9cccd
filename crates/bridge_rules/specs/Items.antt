-- The application item of a value and of a field's text: what two applications compare. Own profile.
use Rattle.std.specs.Prelude.{ℕ, zero, suc, ◌-◌, ◌/◌, ◌%◌, Bool, ◌==◌, if◌then◌else◌, List, [], ◌∷◌, ℤ, pos, ◌-ℤ◌, ◌+ℤ◌, unsigned_abs, Option, Some, None, Result, Ok, Err}
use Rattle.sbe_types.specs.declared.message.Value.{Value}
use Rattle.sbe_types.specs.declared.kind.Primitive.{Primitive}
use Rattle.sbe_types.specs.Numbers.{natural}
use Rattle.fix_values.specs.declared.rule.V.{V}
use Rattle.fix_values.specs.declared.rule.Dec.{Dec}
use Rattle.fix_values.specs.declared.rule.Code.{Code}
use Rattle.fix_values.specs.Numerals.{signed, is_below_zero, integer_of}
use Rattle.fix_values.specs.Decimals.{dec, decimal_of, widened}
use Rattle.fix_values.specs.Codes.{code_text, boolean_shown, codes_in, bits_of, characters, is_among, is_set_text, has_code}
use Rattle.fix_dates.specs.declared.month.MonthYear.{MonthYear}
use Rattle.date_answers.specs.Answers.{Instant, day_read, month_read, least_unit}
use Rattle.bridge_rules.specs.Rules.{UnitBy, always, on_wire, Rule, integer, integer_decimal, fixed_decimal, floating_decimal, single_char, char_array, enum_code, enum_number, enum_boolean, choice_set, raw_data, text_data, day_count, moment, month_year, any_text, constant, is_char}
use Rattle.bridge_rules.specs.Members.{number_in, text_in, mantissa_in, second_number, members_in, bits_in, is_const, month_in, unless_empty, and_then, not_zero, unit_in}
use Rattle.bridge_rules.specs.Values.{instant_read, is_given}

-- What two applications compare, with two things that only a value and its text share: how the number of an enum is
-- spelled, and the unit of a moment that has it on the wire. `application_item` leaves these two out.
pub data Item : Type 0 where
  -- a number, in the form whose mantissa isn't a multiple of ten
  number : Dec → Item
  bytes : List ℕ → Item
  -- the number of an enum value without a text; no field has this item
  without_text : ℤ → Item
  -- the number of an enum value, and its spelling
  written_number : Dec → List ℕ → Item
  -- the codes of a set, and the number of the bits without a code
  choices : (ℕ → Bool) → ℤ → Item
  on_day : ℤ → Item
  -- nanoseconds, and the unit, if it is on the wire
  instant : ℤ → Option ℕ → Item
  in_month : MonthYear → Item

-- the item that applications compare: without the spelling of an enum's number and the unit of a moment
abbrev pub application_item : Item → Item
application_item (written_number d t) = number d
application_item (instant nanos unit) = instant nanos None
application_item (number d) = number d
application_item (bytes t) = bytes t
application_item (without_text n) = without_text n
application_item (choices codes bits) = choices codes bits
application_item (on_day n) = on_day n
application_item (in_month m) = in_month m

-- one more zero
abbrev pub with_zero : ℕ × ℕ → ℕ × ℕ
with_zero r = (r.0, suc r.1)

-- a number without its trailing zeros, at most k of them, and how many these were
abbrev pub without_zeros : ℕ → ℕ → ℕ × ℕ
without_zeros zero n = (n, 0)
without_zeros (suc k) n = if n % 10 == 0 then with_zero (without_zeros k (n / 10)) else (n, 0)

-- a decimal with this sign, size and exponent
abbrev pub of_size : Bool → ℕ × ℕ → ℤ → Dec
of_size negative r exponent = dec (signed negative r.0) (exponent +ℤ pos r.1)

-- the reduced form of a decimal: its mantissa isn't a multiple of ten, and zero has the exponent 0. A mantissa has at
-- most 39 digits
abbrev pub reduced_form : Dec → Dec
reduced_form d =
    if unsigned_abs d.mantissa == 0 then dec (pos 0) (pos 0) else of_size (is_below_zero d.mantissa) (without_zeros 39 (unsigned_abs d.mantissa)) d.exponent

-- the item of a number with an exponent
abbrev pub number_item : ℤ → ℤ → Option Item
number_item mantissa exponent = Some (number (reduced_form (dec mantissa exponent)))

-- the item of an enum's number, by its text
abbrev pub code_item : ℤ → Result (List ℕ) V → Option Item
code_item n (Ok t) = Some (bytes t)
code_item n (Err v) = Some (without_text n)

-- an enum's number itself, or the digit that its character is
abbrev pub digit_or_number : Primitive → ℤ → ℤ
digit_or_number prim n = if is_char prim then n -ℤ pos 48 else n

-- the item of an enum's number, with its spelling if it has one
abbrev pub written_number_item : ℤ → Result (List ℕ) V → Option Item
written_number_item n (Ok t) = Some (written_number (reduced_form (dec n (pos 0))) t)
written_number_item n (Err v) = number_item n (pos 0)

-- the item of a decimal with its exponent on the wire; one without an exponent has no text
abbrev pub floating_item : Option ℤ → ℤ → Option Item
floating_item None m = Some (without_text m)
floating_item (Some e) m = number_item m e

-- the item of a set: the codes of its bits, and the bits without a code
abbrev pub set_item : List Code → ℕ → Option Item
set_item codes n = Some (choices (has_code (codes_in codes n)) (pos n -ℤ pos (bits_of (codes_in codes n))))

-- the unit, if it is on the wire
abbrev pub unit_on_wire : UnitBy → ℕ → Option ℕ
unit_on_wire (always u) unit = None
unit_on_wire (on_wire leaf) unit = Some unit

-- the item of a time in a unit: its nanoseconds
abbrev pub instant_item : UnitBy → Option ℕ → ℤ → Option Item
instant_item unit None n = Some (without_text n)
instant_item unit (Some u) n = Some (instant (widened n (9 - u)) (unit_on_wire unit u))

-- the item of a month, if it is there
abbrev pub month_item : ℤ → Option MonthYear → Option Item
month_item year None = Some (without_text year)
month_item year (Some m) = Some (in_month m)

-- the item of a value, if it has one
abbrev pub item_by : Rule → Value → Option Item
item_by (integer leaf) v = and_then (number_in v) (λ n. number_item n (pos 0))
item_by (integer_decimal leaf) v = and_then (number_in v) (λ n. number_item n (pos 0))
item_by (fixed_decimal leaf exponent) v = and_then (mantissa_in v) (λ m. number_item m exponent)
item_by (floating_decimal leaf exponent) v = and_then (mantissa_in v) (λ m. floating_item (second_number (members_in v)) m)
item_by (single_char leaf) v = and_then (number_in v) (λ n. Some (bytes (natural n ∷ [])))
item_by (char_array leaf) v = and_then (text_in v) (λ t. Some (bytes t))
item_by (enum_code leaf names codes) v = and_then (number_in v) (λ n. code_item n (code_text codes n))
item_by (enum_number leaf names codes) v = and_then (number_in v) (λ n. written_number_item (digit_or_number leaf.prim n) (code_text codes n))
item_by (enum_boolean leaf names) v = and_then (number_in v) (λ n. code_item n (boolean_shown names n))
item_by (choice_set names codes) v = and_then (and_then (bits_in v) not_zero) (λ n. set_item codes n)
item_by (raw_data leaf) v = and_then (and_then (text_in v) unless_empty) (λ t. Some (bytes t))
item_by (text_data leaf) v = and_then (and_then (text_in v) unless_empty) (λ t. Some (bytes t))
item_by (day_count leaf) v = and_then (number_in v) (λ n. Some (on_day n))
item_by (moment from leaf unit) v = and_then (mantissa_in v) (λ n. instant_item unit (unit_in unit v) n)
item_by (month_year leaves) v = and_then (mantissa_in v) (λ year. month_item year (month_in (members_in v)))
item_by any_text v = and_then (text_in v) (λ t. Some (bytes t))
item_by (constant rule own) v = if is_const v then item_by rule own else None

-- the item of a decimal that a text spells
abbrev pub decimal_item : Result Dec V → Option Item
decimal_item (Ok d) = Some (number d)
decimal_item (Err v) = None

-- the item of an enum's digits
abbrev pub written_number_in : List ℕ → Option Item
written_number_in t = and_then (integer_of t) (λ n. Some (written_number (reduced_form (dec n (pos 0))) t))

-- the item of a set's characters
abbrev pub set_item_in : List ℕ → Option Item
set_item_in t = if is_set_text t then Some (choices (λ c. is_among c (characters t)) (pos 0)) else None

-- the item of what was read
abbrev pub item_of_read : {X : Type 0} → (X → Item) → Result X V → Option Item
item_of_read item (Ok x) = Some (item x)
item_of_read item (Err v) = None

-- the item of the instant that a text is read as; if the part has its unit on the wire, it is the unit of the text's
-- digits
abbrev pub instant_item_of : UnitBy → Instant → Item
instant_item_of unit i = instant i.nanos (unit_on_wire unit (least_unit i.digits))

-- the item that a text spells
abbrev pub item_of_text : Rule → List ℕ → Option Item
item_of_text (integer leaf) t = and_then (integer_of t) (λ n. number_item n (pos 0))
item_of_text (integer_decimal leaf) t = decimal_item (decimal_of t)
item_of_text (fixed_decimal leaf exponent) t = decimal_item (decimal_of t)
item_of_text (floating_decimal leaf exponent) t = decimal_item (decimal_of t)
item_of_text (single_char leaf) t = Some (bytes t)
item_of_text (char_array leaf) t = Some (bytes t)
item_of_text (enum_code leaf names codes) t = Some (bytes t)
item_of_text (enum_number leaf names codes) t = written_number_in t
item_of_text (enum_boolean leaf names) t = Some (bytes t)
item_of_text (choice_set names codes) t = set_item_in t
item_of_text (raw_data leaf) t = Some (bytes t)
item_of_text (text_data leaf) t = Some (bytes t)
item_of_text (day_count leaf) t = item_of_read on_day (day_read t)
item_of_text (moment from leaf unit) t = item_of_read (instant_item_of unit) (instant_read from t)
item_of_text (month_year leaves) t = item_of_read in_month (month_read t)
item_of_text any_text t = Some (bytes t)
item_of_text (constant rule own) t = item_of_text rule t

-- the item that a field's text spells, if it spells one
abbrev pub item_in : Rule → List ℕ → Option Item
item_in rule t = if is_given rule t then item_of_text rule t else None

-- ---- as applications see them

-- the item of a value that applications compare, if it has one
abbrev pub value_item : Rule → Value → Option Item
value_item rule v = and_then (item_by rule v) (λ item. Some (application_item item))

-- the same for a field's text
abbrev pub text_item : Rule → List ℕ → Option Item
text_item rule t = and_then (item_in rule t) (λ item. Some (application_item item))
