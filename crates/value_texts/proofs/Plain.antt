-- The texts of values have some bytes and no SOH.
use Rattle.std.proofs.Common.{◌≡◌, ◌<◌, ℕ, zero, suc, Bool, true, false, cond, List, [], ◌∷◌, ◌++◌, length, Option, Some, None, Result, Ok, Err, refl, sym, ap, subst, arith, ℤ, pos, FitsSigned}
use Rattle.std.specs.Prelude.{◌||◌, ◌==◌}
use Rattle.std.specs.Int.{w128}
use Rattle.std.specs.Fmt.{signed_decimal}
use Rattle.std.specs.Ordering.{int_eq}
use Rattle.sbe_types.specs.declared.kind.Leaf.{Leaf as LeafOf}
use Rattle.sbe_types.specs.declared.kind.Named.{Named}
use Rattle.sbe_types.specs.declared.kind.Primitive.TheVariants.{I64}
use Rattle.sbe_types.specs.Numbers.{natural}
use Rattle.sbe_types.specs.Shown.{is_listed}
use Rattle.fix_values.specs.declared.rule.V.{V}
use Rattle.fix_values.specs.declared.rule.V.TheVariants as why
use Rattle.fix_values.specs.declared.rule.Code.{Code}
use Rattle.fix_values.specs.declared.rule.NumRule.{NumRule}
use Rattle.fix_values.specs.declared.rule.NumRule.TheVariants as rule
use Rattle.fix_values.specs.Decimals.{dec, decimal_of, decimal_text}
use Rattle.fix_values.specs.Codes.{has_soh, spaced_texts, codes_in, bits_of, set_text, boolean_text, boolean_shown, truth_text}
use Rattle.fix_values.specs.Values.{can_show, char_text, text_of, text_shown}
use Rattle.fix_dates.specs.declared.month.MonthYear.{MonthYear}
use Rattle.fix_dates.specs.Digits.{digits}
use Rattle.fix_dates.specs.Days.{day_text}
use Rattle.fix_dates.specs.Clocks.{clock_text, fraction_text}
use Rattle.fix_dates.specs.Months.{part_text}
use Rattle.date_answers.specs.Answers.{day_shown}
use Rattle.date_answers.proofs.Shown.{day_spelled, month_spelled, time_spelled, stamp_spelled}
use Rattle.tagvalue_codec.specs.Drafts.{IsValue}
use Rattle.value_laws.proofs.ReadBack.{shown_spelled}
use Rattle.value_laws.proofs.DecimalsBack.{decimals_back}
use Rattle.bridge_rules.specs.Rules.{From, from_1970, from_midnight, integer, any_text}
use Rattle.bridge_rules.specs.Table.{every_number}
use Rattle.bridge_rules.specs.Texts.{decimal_in_types, floating_text, moment_text, month_text}
use Rattle.bridge_rules.specs.Values.{is_given}
use Rattle.bridge_rules.proofs.OptionLemmas.{ok_is}
use Rattle.bridge_rules.proofs.BoolLemmas.{none_of, not_true, true_false}
use Rattle.bridge_rules.proofs.PlainRules.{err_ok}
use Rattle.bridge_rules.proofs.ReadBack.{if_back_is}
use Rattle.bridge_rules.proofs.ShownTexts.{plain_append, long_front, integer_given, decimal_given, code_plain}
use Rattle.message_walk.proofs.Values.{plain_value}
use Rattle.bridge_rules.proofs.DateTexts.{plain_places, plain_day, plain_clock, plain_part, some_digits}

-- some bytes, none of them SOH
pub record IsPlain (t : List ℕ) : Type 0 where
  pub some : 0 < length t
  pub plain : has_soh t ≡ false

pub value_of_plain : (t : List ℕ) → IsPlain t → IsValue t
value_of_plain t p = plain_value t p.some p.plain

pub plain_shown : (t : List ℕ) → IsPlain t → text_shown t ≡ Ok tt
plain_shown [] p = absurd (omega (arith, p.some))
plain_shown (b ∷ bs) p = ap (λ s. cond {A = Result Unit V} s (Err why.Soh) (Ok tt)) p.plain

-- a text that a text field may have, and one that an integer's may have
given_plain : (t : List ℕ) → is_given any_text t ≡ true → IsPlain t
given_plain [] h = true_false h refl
given_plain (b ∷ bs) h = record { some = omega arith; plain = not_true (has_soh (b ∷ bs)) h }

given_integer : (leaf : LeafOf) (t : List ℕ) → is_given (integer leaf) t ≡ true → IsPlain t
given_integer leaf [] h = true_false h refl
given_integer leaf (b ∷ bs) h = record { some = omega arith; plain = not_true (has_soh (b ∷ bs)) h }

-- ---- numbers

pub digits_plain : (n : ℤ) → FitsSigned w128 n → IsPlain (signed_decimal n)
digits_plain n fits = given_integer (every_number I64) (signed_decimal n) (integer_given (every_number I64) (signed_decimal n) n (shown_spelled n fits))

pub digits_value : (n : ℤ) → FitsSigned w128 n → IsValue (signed_decimal n)
digits_value n fits = value_of_plain (signed_decimal n) (digits_plain n fits)

char_plain : (b : ℕ) (t : List ℕ) → char_text b ≡ Ok t → IsPlain t
char_plain b t h = by_test (b == 1) refl h
  where
    by_test : (c : Bool) → (b == 1) ≡ c → ◌≡◌ {A = Result (List ℕ) V} (cond c (Err why.Spelling) (Ok (b ∷ []))) (Ok t) → IsPlain t
    by_test true is k = err_ok k
    by_test false is k = subst IsPlain (ok_is k) (record { some = omega arith; plain = none_of (b == 1) false is refl })

truth_plain : (names : List Named) (n : ℤ) (t : List ℕ) → boolean_shown names n ≡ Ok t → IsPlain t
truth_plain names n t h = by_listed (is_listed names n) h
  where
    by_tests : (a b : Bool) → truth_text (cond a (Some 89) (cond b (Some 78) None)) ≡ Ok t → IsPlain t
    by_tests true b k = subst IsPlain (ok_is k) (record { some = omega arith; plain = refl })
    by_tests false true k = subst IsPlain (ok_is k) (record { some = omega arith; plain = refl })
    by_tests false false k = err_ok k

    by_listed : (a : Bool) → cond a (truth_text (boolean_text n)) (Err why.UnknownCode) ≡ Ok t → IsPlain t
    by_listed false k = err_ok k
    by_listed true k = by_tests (int_eq n (pos 1) || int_eq n (pos 89)) (int_eq n (pos 0) || int_eq n (pos 78)) k

set_plain : (list : List Code) (n : ℕ) (t : List ℕ) → set_text list n ≡ Ok t → IsPlain t
set_plain list n t h = by_tests (bits_of (codes_in list n) == n) (length own == 0) (has_soh own) refl refl h
  where
    own : List ℕ
    own = spaced_texts (codes_in list n)

    some : (k : ℕ) → (k == 0) ≡ false → 0 < k
    some zero e = true_false refl e
    some (suc k) e = omega arith

    by_tests : (a b c : Bool) → (length own == 0) ≡ b → has_soh own ≡ c → cond a (cond b (Err why.Empty) (cond {A = Result (List ℕ) V} c (Err why.Soh) (Ok own))) (Err why.UnknownCode) ≡ Ok t → IsPlain t
    by_tests false b c p q k = err_ok k
    by_tests true true c p q k = err_ok k
    by_tests true false true p q k = err_ok k
    by_tests true false false p q k = subst IsPlain (ok_is k) (record { some = some (length own) p; plain = q })

-- the text of a number by any rule
pub number_plain : (rule : NumRule) (n : ℤ) → FitsSigned w128 n → can_show rule ≡ true → (t : List ℕ) → text_of rule n ≡ Ok t → IsPlain t
number_plain rule.Int n fits can t h = subst IsPlain (ok_is h) (digits_plain n fits)
number_plain rule.Decimal n fits can t h = subst IsPlain (ok_is h) (digits_plain n fits)
number_plain rule.Char n fits can t h = char_plain (natural n) t h
number_plain (rule.Boolean names) n fits can t h = truth_plain names n t h
number_plain (rule.Code codes) n fits can t h = let p = code_plain codes n t can h in record { some = p.0; plain = p.1 }
number_plain (rule.Codes codes) n fits can t h = set_plain codes (natural n) t h

-- ---- decimals

pub decimal_plain : (m e : ℤ) → FitsSigned w128 m → (t : List ℕ) → decimal_text (dec m e) ≡ Ok t → IsPlain t
decimal_plain m e fits t h = let back = decimals_back m e t fits h in given_plain t (decimal_given any_text t back.0 back.1)

pub floating_plain : (mantissa exponent : LeafOf) (e : Option ℤ) (m : ℤ) → FitsSigned w128 m → (t : List ℕ) → floating_text mantissa exponent e m ≡ Ok t → IsPlain t
floating_plain mantissa exponent None m fits t h = err_ok h
floating_plain mantissa exponent (Some e) m fits t h =
    decimal_plain m e fits t (if_back_is (λ t. decimal_in_types mantissa exponent (decimal_of t)) (decimal_text (dec m e)) t h)

-- ---- days, moments and months

-- a text with this text in front
plain_front : (t s more : List ℕ) → t ≡ s ++ more → 0 < length s → has_soh (s ++ more) ≡ false → IsPlain t
plain_front t s more e long plain = subst IsPlain (sym e) (record { some = long_front s more long; plain = plain })

pub day_plain : (n : ℤ) (t : List ℕ) → day_shown n ≡ Ok t → IsPlain t
day_plain n t h =
    let s = day_spelled n t h in
    let day = s.parts in
    plain_front t (digits 4 day.year) (digits 2 day.month ++ digits 2 day.day) s.spelled (some_digits 4 day.year (omega arith)) (plain_day day)

pub month_plain : (m : Option MonthYear) (t : List ℕ) → month_text m ≡ Ok t → IsPlain t
month_plain None t h = err_ok h
month_plain (Some m) t h =
    let s = month_spelled m t h in
    let p = s.parts in
    plain_front t (digits 4 p.year) (digits 2 p.month ++ part_text p.part) s.spelled (some_digits 4 p.year (omega arith))
    (plain_append (digits 4 p.year) _ (plain_places 4 p.year) (plain_append (digits 2 p.month) (part_text p.part) (plain_places 2 p.month) (plain_part p.part)))

pub moment_plain : (from : From) (unit : Option ℕ) (n : ℤ) (t : List ℕ) → moment_text from unit n ≡ Ok t → IsPlain t
moment_plain from None n t h = err_ok h
moment_plain from_1970 (Some unit) n t h =
    let s = stamp_spelled unit n t h in
    let day = s.parts.day in
    plain_front t (day_text day) (45 ∷ clock_text s.parts.clock) s.spelled (long_front (digits 4 day.year) _ (some_digits 4 day.year (omega arith)))
    (plain_append (day_text day) (45 ∷ clock_text s.parts.clock) (plain_day day) (plain_clock s.parts.clock))
moment_plain from_midnight (Some unit) n t h =
    let s = time_spelled unit n t h in
    let clock = s.parts in
    plain_front t (digits 2 clock.hour) (58 ∷ (digits 2 clock.minute ++ (58 ∷ (digits 2 clock.second ++ fraction_text clock.places clock.fraction)))) s.spelled
    (some_digits 2 clock.hour (omega arith)) (plain_clock clock)
