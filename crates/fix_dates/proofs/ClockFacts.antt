-- Fractions of a second in units, and the text of a time of day taken apart and put together.
use Rattle.std.proofs.Common.{◌≡◌, ℕ, zero, suc, ◌+◌, ◌-◌, ◌*◌, ◌/◌, ◌%◌, ◌<◌, ◌≤◌, ◌^◌, Some, List, ◌∷◌, ◌++◌, length, take, drop, get_or, inl, inr, refl, sym, ap, ◌∙◌, arith, drop-cons}
use Rattle.std.proofs.Math.Nat.{mul-lt-mul_of_pos_right, one-le-pow}
use Rattle.std.proofs.lemmas.Bool.{cases_order}
use Rattle.std.proofs.lemmas.Nat.{pow-add}
use Rattle.std.proofs.lemmas.List.{length-drop, take_all, drop-drop}
use Rattle.fix_dates.specs.declared.clock.Clock.{Clock}
use Rattle.fix_dates.specs.Digits.{digits, number_in}
use Rattle.fix_dates.specs.Clocks.{clock_text, fraction_text, FitsClock}
use Rattle.fix_dates.proofs.DigitFacts.{read_back, piece_read, first_and_rest, length_digits}

-- the power of the places and that of those that are missing to twelve
powers : (places : ℕ) → places ≤ 12 → 10 ^ places * 10 ^ (12 - places) ≡ 10 ^ 12
powers places few = let all : places + (12 - places) ≡ 12 = omega arith in sym (pow-add 10 places (12 - places)) ∙ ap (λ k. 10 ^ k) all

-- a fraction in units of ten to the minus twelve seconds
pub picos_fit : (places fraction : ℕ) → places ≤ 12 → fraction < 10 ^ places → fraction * 10 ^ (12 - places) < 10 ^ 12
picos_fit places fraction few fits =
    let some : 0 < 10 ^ (12 - places) = one-le-pow (12 - places) 10 (omega arith) in
    let below : fraction * 10 ^ (12 - places) < 10 ^ places * 10 ^ (12 - places) = mul-lt-mul_of_pos_right fits some in
    rw (powers places few) at below

-- so many thousands of the smallest units are so many nanoseconds
thousands : (power missing fraction nanos : ℕ) → power * missing ≡ 10 ^ 12 → fraction * missing ≡ 1000 * nanos → nanos * power ≡ fraction * 10 ^ 9
thousands power missing fraction nanos all picos =
    let much : fraction * missing * power ≡ 1000 * nanos * power = ap (λ k. k * power) picos in
    let whole : fraction * (power * missing) ≡ fraction * 10 ^ 12 = ap (λ k. fraction * k) all in
    omega arith

-- and back
thousands_back : (power missing fraction nanos : ℕ) → power * missing ≡ 10 ^ 12 → nanos * power ≡ fraction * 10 ^ 9 → fraction * missing ≡ 1000 * nanos
thousands_back power missing fraction nanos all e =
    let much : nanos * power * missing ≡ fraction * 10 ^ 9 * missing = ap (λ k. k * missing) e in
    let whole : nanos * (power * missing) ≡ nanos * 10 ^ 12 = ap (λ k. nanos * k) all in
    omega arith

-- a fraction is a whole number of nanoseconds where a thousand divides it
pub nanos_whole : (places fraction : ℕ) → places ≤ 12 → fraction * 10 ^ (12 - places) % 1000 ≡ 0 → fraction * 10 ^ (12 - places) / 1000 * 10 ^ places ≡ fraction * 10 ^ 9
nanos_whole places fraction few whole =
    thousands (10 ^ places) (10 ^ (12 - places)) fraction (fraction * 10 ^ (12 - places) / 1000) (powers places few) (omega arith)

-- and only there
pub picos_whole : (places fraction nanos : ℕ) → places ≤ 12 → nanos * 10 ^ places ≡ fraction * 10 ^ 9 → fraction * 10 ^ (12 - places) ≡ 1000 * nanos
picos_whole places fraction nanos few e = thousands_back (10 ^ places) (10 ^ (12 - places)) fraction nanos (powers places few) e

-- a time is a whole number of nanoseconds where its fraction is
pub rest_whole : (power seconds fraction nanos : ℕ) → 0 < power → nanos * power ≡ (seconds * power + fraction) * 10 ^ 9 → (rest : ℕ) × (rest * power ≡ fraction * 10 ^ 9)
rest_whole power seconds fraction nanos some e =
    elim (cases_order nanos (seconds * 10 ^ 9)) [
      | inr (inl less) ↦ absurd (let short : nanos * power < seconds * 10 ^ 9 * power = mul-lt-mul_of_pos_right less some in omega arith)
      | inl same ↦ (0, let all : nanos * power ≡ seconds * 10 ^ 9 * power = ap (λ k. k * power) same in omega arith)
      | inr (inr more) ↦
          let rest = nanos - seconds * 10 ^ 9 in
          let split : nanos ≡ seconds * 10 ^ 9 + rest = omega arith in
          let all : nanos * power ≡ (seconds * 10 ^ 9 + rest) * power = ap (λ k. k * power) split in
          (rest, omega arith)
    ]

-- what is read where a fraction is
pub record ReadsFraction (text : List ℕ) (fraction places : ℕ) : Type 0 where
  pub point : get_or text 0 0 ≡ 46
  pub long : length text ≡ places + 1
  pub some : 1 ≤ places
  pub fraction_read : number_in (take (length text - 1) (drop 1 text)) ≡ Some fraction

-- a fraction's text that isn't empty is read as it
pub fraction_apart : (text : List ℕ) (fraction places : ℕ) → fraction < 10 ^ places → text ≡ fraction_text places fraction → 0 < length text → ReadsFraction text fraction places
fraction_apart text fraction zero fits e some = absurd (omega (arith, ap length e))
fraction_apart text fraction (suc places) fits e some =
    let all : take (length (fraction_text (suc places) fraction) - 1) (digits (suc places) fraction) ≡ digits (suc places) fraction = take_all _ (digits (suc places) fraction) (omega arith) in
    rw e (record {
      point = refl;
      long = omega (arith, length_digits (suc places) fraction);
      some = omega arith;
      fraction_read = rw all (read_back (suc places) fraction fits);
    })

-- and a text that is so read is the fraction's
pub fraction_together : (text : List ℕ) (fraction places : ℕ) → ReadsFraction text fraction places → text ≡ fraction_text places fraction
fraction_together text fraction zero h = absurd (omega (arith, h.some))
fraction_together text fraction (suc places) h =
    let rest : length (drop 1 text) ≡ suc places = omega (arith, h.long, length-drop {A = ℕ}) in
    let all : length text - 1 ≡ suc places = omega (arith, h.long) in
    let piece = piece_read (suc places) (drop 1 text) fraction (omega arith) (rw all at h.fraction_read) in
    let after : digits (suc places) fraction ≡ drop 1 text = piece.0 ∙ take_all (suc places) (drop 1 text) (omega arith) in
    let front : drop 0 text ≡ get_or text 0 0 ∷ drop 1 text = drop-cons text 0 0 (omega (arith, h.long)) in
    front ∙ (ap (λ x. x ∷ drop 1 text) h.point ∙ ap (λ xs. 46 ∷ xs) (sym after))

-- what is read where a time of day is
pub record ReadsClock (text : List ℕ) (clock : Clock) : Type 0 where
  pub long : 8 ≤ length text
  pub first_colon : get_or text 2 0 ≡ 58
  pub second_colon : get_or text 5 0 ≡ 58
  pub hour_read : number_in (take 2 text) ≡ Some clock.hour
  pub minute_read : number_in (take 2 (drop 3 text)) ≡ Some clock.minute
  pub second_read : number_in (take 2 (drop 6 text)) ≡ Some clock.second
  pub rest : drop 8 text ≡ fraction_text clock.places clock.fraction

-- the text of a time of day is read as it
pub clock_apart : (text : List ℕ) (clock : Clock) → FitsClock clock → text ≡ clock_text clock → ReadsClock text clock
unfolding digits
clock_apart text clock fits e = rw e (record {
  long = omega arith;
  first_colon = refl;
  second_colon = refl;
  hour_read = read_back 2 clock.hour fits.hour_fits;
  minute_read = read_back 2 clock.minute fits.minute_fits;
  second_read = read_back 2 clock.second fits.second_fits;
  rest = refl;
})

-- and a text that is so read is that of the time
pub clock_together : (text : List ℕ) (clock : Clock) → ReadsClock text clock → (text ≡ clock_text clock) × (clock.hour < 100) × (clock.minute < 100) × (clock.second < 100)
clock_together text clock h =
    let from_three : length (drop 3 text) ≡ length text - 3 = length-drop 3 text in
    let from_six : length (drop 6 text) ≡ length text - 6 = length-drop 6 text in
    let hours = piece_read 2 text clock.hour (omega (arith, h.long)) h.hour_read in
    let minutes = piece_read 2 (drop 3 text) clock.minute (omega (arith, h.long)) h.minute_read in
    let seconds = piece_read 2 (drop 6 text) clock.second (omega (arith, h.long)) h.second_read in
    let last : digits 2 clock.second ++ fraction_text clock.places clock.fraction ≡ drop 6 text =
    ap (λ xs. digits 2 clock.second ++ xs) (sym h.rest ∙ sym (drop-drop 2 6 text)) ∙ first_and_rest 2 (digits 2 clock.second) (drop 6 text) seconds.0 in
    let second_colon : 58 ∷ drop 6 text ≡ drop 5 text = ap (λ x. x ∷ drop 6 text) (sym h.second_colon) ∙ sym (drop-cons text 5 0 (omega (arith, h.long))) in
    let middle : digits 2 clock.minute ++ drop 5 text ≡ drop 3 text =
    ap (λ xs. digits 2 clock.minute ++ xs) (sym (drop-drop 2 3 text)) ∙ first_and_rest 2 (digits 2 clock.minute) (drop 3 text) minutes.0 in
    let first_colon : 58 ∷ drop 3 text ≡ drop 2 text = ap (λ x. x ∷ drop 3 text) (sym h.first_colon) ∙ sym (drop-cons text 2 0 (omega (arith, h.long))) in
    let front : digits 2 clock.hour ++ drop 2 text ≡ text = first_and_rest 2 (digits 2 clock.hour) text hours.0 in
    let behind_minutes = ap (λ xs. 58 ∷ xs) last ∙ second_colon in
    let behind_hours = ap (λ xs. 58 ∷ xs) (ap (λ xs. digits 2 clock.minute ++ xs) behind_minutes ∙ middle) ∙ first_colon in
    (sym (ap (λ xs. digits 2 clock.hour ++ xs) behind_hours ∙ front), hours.1, minutes.1, seconds.1)
