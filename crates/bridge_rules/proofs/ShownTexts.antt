-- The text that each rule writes of a good value has its item.
use Rattle.sbe_types.specs.declared.kind.Named.{Named}
use Rattle.fix_values.specs.declared.rule.Code.{Code}
use Rattle.std.specs.Ordering.{int_eq}
use Rattle.std.specs.List.{list_all}
use Rattle.std.proofs.Common.{◌≡◌, inl, inr, ℕ, ◌+◌, ◌^◌, ◌<◌, Bool, true, false, cond, List, [], ◌∷◌, ◌++◌, length, codes, Option, Some, None, Result, Ok, Err, refl, sym, ap, ◌∙◌, subst, arith, ℤ, pos, FitsSigned, nat_lt}
use Rattle.std.specs.Prelude.{◌==◌, not, unsigned_abs, find}
use Rattle.std.specs.Int.{w128}
use Rattle.std.specs.Fmt.{signed_decimal}
use Rattle.std.specs.Str.{all_ascii_digits}
use Rattle.std.specs.Char.{is_ascii_digit}
use Rattle.std.proofs.lemmas.Bool.Decides.{nat_tests}
use Rattle.sbe_types.specs.declared.kind.Leaf.{Leaf as LeafOf}
use Rattle.sbe_types.specs.declared.message.Value.{Value}
use Rattle.sbe_types.specs.declared.message.Value as value
use Rattle.fix_values.specs.declared.rule.V.{V}
use Rattle.fix_values.specs.declared.rule.V.TheVariants as why
use Rattle.fix_values.specs.declared.rule.Dec.{Dec}
use Rattle.fix_values.specs.Numerals.{integer_of, is_value, sign, SpellsInteger}
use Rattle.fix_values.specs.Decimals.{dec, decimal_of, decimal_text}
use Rattle.fix_values.specs.Codes.{has_soh, code_text, found_text, has_short_text}
use Rattle.fix_values.specs.Values.{text_shown}
use Rattle.fix_values.proofs.NumeralLemmas.{both}
use Rattle.value_laws.proofs.ReadBack.{spelled_back, shown_spelled}
use Rattle.value_laws.proofs.DecimalsBack.{decimals_back}
use Rattle.value_laws.proofs.Reduced.{read_reduced, same_through}
use Rattle.value_laws.proofs.Fractions.{one_form, turned}
use Rattle.value_laws.proofs.Spelled.{reads}
use Rattle.fix_values.specs.Decimals.{ReadsDecimal, IsReadAs}
use Rattle.bridge_rules.specs.Rules.{Rule, integer, fixed_decimal, char_array, raw_data, enum_code}
use Rattle.bridge_rules.specs.Items.{number, bytes, item_in, number_item, decimal_item, reduced_form, code_item}
use Rattle.bridge_rules.specs.Values.{is_given}
use Rattle.bridge_rules.specs.Texts.{text_if_any, field_text, judged_text}
use Rattle.bridge_rules.specs.Sound.{IsShown, ShowsGood}
use Rattle.bridge_rules.proofs.OptionLemmas.{some_is, none_some, some_none, ok_is, and_then_some}
use Rattle.bridge_rules.proofs.BoolLemmas.{or_right, or_false, none_of, either, if_true, if_false}
use Rattle.bridge_rules.proofs.PlainRules.{err_ok, given_item, fraction_item, mantissa_is}
use Rattle.bridge_rules.proofs.ReducedForms.{form_same, form_reduced}

-- ---- texts without SOH

pub plain_digits : (ds : List ℕ) → all_ascii_digits ds ≡ true → has_soh ds ≡ false
plain_digits [] h = refl
plain_digits (d ∷ ds) h =
    let is = both (is_ascii_digit d) (all_ascii_digits ds) h in
    none_of (d == 1) _ (not_soh d is.0) (plain_digits ds is.1)
  where
    not_soh : (d : ℕ) → is_ascii_digit d ≡ true → (d == 1) ≡ false
    not_soh d k = grind (arith, nat_tests)

pub plain_append : (s t : List ℕ) → has_soh s ≡ false → has_soh t ≡ false → has_soh (s ++ t) ≡ false
plain_append [] t a b = b
plain_append (x ∷ xs) t a b = let is = or_false (x == 1) (has_soh xs) a in none_of (x == 1) (has_soh (xs ++ t)) is.0 (plain_append xs t is.1 b)

pub plain_sign : (negative : Bool) → has_soh (sign negative) ≡ false
plain_sign true = refl
plain_sign false = refl

pub given_text : (rule : Rule) (t : List ℕ) → 0 < length t → has_soh t ≡ false → is_given rule t ≡ true
given_text rule [] long plain = absurd (omega (arith, long))
given_text rule (b ∷ bs) long plain = or_right _ _ (ap not plain)

pub long_append : (s t : List ℕ) → 0 < length t → 0 < length (s ++ t)
long_append [] t h = h
long_append (x ∷ xs) t h = omega arith

pub long_front : (s t : List ℕ) → 0 < length s → 0 < length (s ++ t)
long_front [] t h = absurd (omega (arith, h))
long_front (x ∷ xs) t h = omega arith

-- ---- what was shown

pub field_text_is : (r : Result (List ℕ) V) (t : List ℕ) → field_text r ≡ Ok (Some t) → r ≡ Ok t
field_text_is (Ok s) t h = ap Ok (some_is (ok_is h))
field_text_is (Err v) t h = err_ok h

pub field_text_some : {Z : Type 0} (r : Result (List ℕ) V) → field_text r ≡ Ok None → Z
field_text_some (Ok s) h = some_none (ok_is h)
field_text_some (Err v) h = err_ok h

pub ok_none : {A Z : Type 0} {t : A} → ◌≡◌ {A = Result (Option A) V} (Ok None) (Ok (Some t)) → Z
ok_none h = none_some (ok_is h)

-- ---- integers

pub integer_given : (leaf : LeafOf) (t : List ℕ) (n : ℤ) → SpellsInteger t n → is_given (integer leaf) t ≡ true
integer_given leaf t n s =
    let numeral = both (nat_lt 0 (length s.digits)) (all_ascii_digits s.digits) s.numeral in
    subst (λ t. is_given (integer leaf) t ≡ true) (sym s.spelled)
    (given_text (integer leaf) (sign s.negative ++ s.digits) (long_append (sign s.negative) s.digits (some_length (length s.digits) numeral.0))
    (plain_append (sign s.negative) s.digits (plain_sign s.negative) (plain_digits s.digits numeral.1)))
  where
    some_length : (k : ℕ) → nat_lt 0 k ≡ true → 0 < k
    some_length k h = grind (arith, nat_tests)

pub integer_shown : (leaf : LeafOf) → ((n : ℤ) → is_value leaf n ≡ true → FitsSigned w128 n) → ShowsGood (integer leaf)
integer_shown leaf narrow v good = elim good [
  | inl g ↦ subst (IsShown (integer leaf)) (sym g.1) (record {
    written = λ t h.
        let text : signed_decimal g.0 ≡ t = ok_is (field_text_is (Ok (signed_decimal g.0)) t h) in
        let spelled = subst (λ t. SpellsInteger t g.0) text (shown_spelled g.0 (narrow g.0 g.2)) in (
          number (reduced_form (dec g.0 (pos 0))),
          given_item (integer leaf) t (integer_given leaf t g.0 spelled) ∙ and_then_some (integer_of t) (λ n. number_item n (pos 0)) g.0 (spelled_back t g.0 spelled),
          refl,
        );
    unwritten = λ h. field_text_some (Ok (signed_decimal g.0)) h;
  })
  | inr g ↦ subst (IsShown (integer leaf)) (sym g.0) (record { written = λ t h. ok_none h; unwritten = λ h. refl })
]

-- ---- texts

pub shown_is : (t s : List ℕ) → judged_text t (text_shown t) ≡ Ok s → (t ≡ s) × (0 < length t) × (has_soh t ≡ false)
shown_is [] s h = err_ok h
shown_is (b ∷ bs) s h = by_test (has_soh (b ∷ bs)) refl h
  where
    by_test : (c : Bool) → has_soh (b ∷ bs) ≡ c → judged_text (b ∷ bs) (cond {A = Result Unit V} c (Err why.Soh) (Ok tt)) ≡ Ok s → ((b ∷ bs) ≡ s) × (0 < length (b ∷ bs)) × (has_soh (b ∷ bs) ≡ false)
    by_test true is k = err_ok k
    by_test false is k = (ok_is k, omega arith, is)

pub char_array_shown : (leaf : LeafOf) → ShowsGood (char_array leaf)
char_array_shown leaf v good = elim good [
  | inl g ↦ subst (IsShown (char_array leaf)) (sym g.1) (record {
    written = λ t h.
        let is = shown_is g.0 t (field_text_is (judged_text g.0 (text_shown g.0)) t h) in
        (bytes t, given_item (char_array leaf) t (subst (λ t. is_given (char_array leaf) t ≡ true) is.0 (given_text (char_array leaf) g.0 is.1 is.2)), ap (λ t. Some (bytes t)) is.0);
    unwritten = λ h. field_text_some (judged_text g.0 (text_shown g.0)) h;
  })
  | inr g ↦ subst (IsShown (char_array leaf)) (sym g.0) (record { written = λ t h. ok_none h; unwritten = λ h. refl })
]

-- ---- decimals

pub decimal_given : (rule : Rule) (t : List ℕ) (d : Dec) → decimal_of t ≡ Ok d → is_given rule t ≡ true
decimal_given rule t d h =
    let read : IsReadAs t d = subst (ReadsDecimal t) h (reads t) in
    let s = read.spelled in
    let p = read.parts in
    let is = both (nat_lt 0 (length p.whole + length p.fraction)) _ s.digits in
    let digits = both (all_ascii_digits p.whole) (all_ascii_digits p.fraction) is.1 in
    let whole_plain = plain_digits p.whole digits.0 in
    elim s.spelled [
      | inl k ↦ subst (λ t. is_given rule t ≡ true) (sym k)
          (given_text rule (sign p.negative ++ p.whole ++ codes "." ++ p.fraction) (pointed (sign p.negative) p.whole p.fraction)
          (plain_append ((sign p.negative ++ p.whole) ++ codes ".") p.fraction
          (plain_append (sign p.negative ++ p.whole) (codes ".") (plain_append (sign p.negative) p.whole (plain_sign p.negative) whole_plain) refl) (plain_digits p.fraction digits.1)))
      | inr k ↦ subst (λ t. is_given rule t ≡ true) (sym k.0)
          (given_text rule (sign p.negative ++ p.whole) (long_append (sign p.negative) p.whole (some_whole p.whole p.fraction k.1 is.0))
          (plain_append (sign p.negative) p.whole (plain_sign p.negative) whole_plain))
    ]
  where
    pointed : (a b c : List ℕ) → 0 < length (a ++ b ++ codes "." ++ c)
    pointed a b c = long_front ((a ++ b) ++ codes ".") c (long_append (a ++ b) (codes ".") (omega arith))

    some_whole : (a b : List ℕ) → b ≡ [] → nat_lt 0 (length a + length b) ≡ true → 0 < length a
    some_whole a b none h = grind (arith, nat_tests, ap length none)

pub fixed_decimal_shown : (leaf : LeafOf) (e : ℤ) → ((n : ℤ) → is_value leaf n ≡ true → FitsSigned w128 n × (unsigned_abs n < 10 ^ 39)) → ShowsGood (fixed_decimal leaf e)
fixed_decimal_shown leaf e narrow v good = elim good [
  | inl g ↦ subst (IsShown (fixed_decimal leaf e)) (sym g.1) (record {
    written = λ t h.
        let text = field_text_is (decimal_text (dec g.0 e)) t (sym (ap (λ o. text_if_any o (λ m. decimal_text (dec m e))) (mantissa_is (value.Num g.0))) ∙ h) in
        let back = decimals_back g.0 e t (narrow g.0 g.2).0 text in
        let form : reduced_form (dec g.0 e) ≡ back.0 = one_form (reduced_form (dec g.0 e)) back.0 (form_reduced g.0 e (narrow g.0 g.2).1) (read_reduced t back.0 back.1)
        (same_through (dec g.0 e) (reduced_form (dec g.0 e)) back.0 (turned (form_same g.0 e)) (turned back.2)) in (
          number back.0,
          given_item (fixed_decimal leaf e) t (decimal_given (fixed_decimal leaf e) t back.0 back.1) ∙ ap decimal_item back.1,
          fraction_item leaf e (value.Num g.0) ∙ ap (λ d. Some (number d)) form,
        );
    unwritten = λ h. field_text_some (decimal_text (dec g.0 e)) (sym (ap (λ o. text_if_any o (λ m. decimal_text (dec m e))) (mantissa_is (value.Num g.0))) ∙ h);
  })
  | inr g ↦ subst (IsShown (fixed_decimal leaf e)) (sym g.0) (record {
    written = λ t h. ok_none (sym (ap (λ o. text_if_any o (λ m. decimal_text (dec m e))) (mantissa_is value.Null)) ∙ h);
    unwritten = λ h. fraction_item leaf e value.Null;
  })
]

-- ---- data

pub raw_data_shown : (leaf : LeafOf) → ShowsGood (raw_data leaf)
raw_data_shown leaf v good = subst (IsShown (raw_data leaf)) (sym good.1) (by_bytes good.0)
  where
    by_bytes : (t : List ℕ) → IsShown (raw_data leaf) (value.Text t)
    by_bytes [] = record { written = λ t h. ok_none h; unwritten = λ h. refl }
    by_bytes (b ∷ bs) = record {
      written = λ t h.
          let is : b ∷ bs ≡ t = ok_is (field_text_is (Ok (b ∷ bs)) t h) in
          (bytes t, subst (λ t. item_in (raw_data leaf) t ≡ Some (bytes t)) is refl, ap (λ t. Some (bytes t)) is);
      unwritten = λ h. field_text_some (Ok (b ∷ bs)) h;
    }

-- ---- codes

pub code_plain : (list : List Code) (n : ℤ) (t : List ℕ) → list_all has_short_text list ≡ true → code_text list n ≡ Ok t → (0 < length t) × (has_soh t ≡ false)
code_plain [] n t all h = err_ok h
code_plain (x ∷ xs) n t all h = elim (either (int_eq x.number n)) [
  | inl hit ↦ plain_code (has_soh x.text) refl (sym (ap found_text (if_true (int_eq x.number n) (Some x) (find (λ code. int_eq code.number n) xs) hit)) ∙ h)
  | inr miss ↦ code_plain xs n t (both (has_short_text x) (list_all has_short_text xs) all).1
      (sym (ap found_text (if_false (int_eq x.number n) (Some x) (find (λ code. int_eq code.number n) xs) miss)) ∙ h)
]
  where
    long_text : (k : ℕ) → nat_lt 0 k ≡ true → 0 < k
    long_text k e = grind (arith, nat_tests)

    plain_code : (c : Bool) → has_soh x.text ≡ c → cond {A = Result (List ℕ) V} c (Err why.Soh) (Ok x.text) ≡ Ok t → (0 < length t) × (has_soh t ≡ false)
    plain_code true is k = err_ok k
    plain_code false is k =
        subst (λ s. (0 < length s) × (has_soh s ≡ false)) (ok_is k)
        (long_text (length x.text) (both (nat_lt 0 (length x.text)) _ (both (has_short_text x) (list_all has_short_text xs) all).0).0, is)

pub enum_code_shown : (leaf : LeafOf) (names : List Named) (list : List Code) → list_all has_short_text list ≡ true → ShowsGood (enum_code leaf names list)
enum_code_shown leaf names list short v good = elim good [
  | inl g ↦ subst (IsShown (enum_code leaf names list)) (sym g.1) (record {
    written = λ t h.
        let text = field_text_is (code_text list g.0) t h in
        let plain = code_plain list g.0 t short text in
        (bytes t, given_item (enum_code leaf names list) t (given_text (enum_code leaf names list) t plain.0 plain.1), ap (code_item g.0) text);
    unwritten = λ h. field_text_some (code_text list g.0) h;
  })
  | inr g ↦ subst (IsShown (enum_code leaf names list)) (sym g.0) (record { written = λ t h. ok_none h; unwritten = λ h. refl })
]
