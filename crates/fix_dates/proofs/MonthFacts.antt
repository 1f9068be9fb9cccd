-- The text of a month taken apart and put together.
use Rattle.std.proofs.Common.{◌≡◌, ◌≢◌, ℕ, ◌-◌, ◌≤◌, ◌⊎◌, inl, inr, Some, List, ◌∷◌, ◌++◌, length, take, drop, get_or, refl, sym, ap, ◌∙◌, arith, drop-cons}
use Rattle.std.proofs.lemmas.List.{length-drop, take_all, drop-drop}
use Rattle.fix_dates.specs.declared.month.Month.{Month}
use Rattle.fix_dates.specs.declared.month.Part.{Part}
use Rattle.fix_dates.specs.declared.month.Part.TheVariants as part
use Rattle.fix_dates.specs.Digits.{digits, number_in}
use Rattle.fix_dates.specs.Months.{month_text, part_text, FitsMonth, FitsPart}
use Rattle.fix_dates.proofs.DigitFacts.{read_back, piece_read, first_and_rest, length_digits}

-- a part has no bytes or two
pub part_long : (text : List ℕ) (p : Part) → text ≡ part_text p → (length text ≡ 0) ⊎ (length text ≡ 2)
part_long text part.Whole e = inl (ap length e)
part_long text (part.Day day) e = inr (ap length e ∙ length_digits 2 day)
part_long text (part.Week week) e = inr (omega (arith, ap length e, length_digits 1 week))

-- two bytes are read as a week
pub record ReadsWeek (text : List ℕ) : Type 0 where
  pub letter : get_or text 0 0 ≡ 119
  pub week : ℕ
  pub week_read : number_in (take 1 (drop 1 text)) ≡ Some week

-- or as a day
pub record ReadsDayOf (text : List ℕ) : Type 0 where
  pub digit : get_or text 0 0 ≢ 119
  pub day : ℕ
  pub day_read : number_in (take 2 text) ≡ Some day

pub part_apart : (text : List ℕ) (p : Part) → FitsPart p → text ≡ part_text p → length text ≡ 2 → ReadsWeek text ⊎ ReadsDayOf text
unfolding digits
part_apart text part.Whole fits e long = absurd (omega (arith, long, ap length e))
part_apart text (part.Day day) fits e long = inr (rw e (record { digit = λ same. omega (arith, same); day = day; day_read = read_back 2 day fits }))
part_apart text (part.Week week) fits e long = inl (rw e (record { letter = refl; week = week; week_read = read_back 1 week fits }))

-- two bytes of which the first is the letter and the other is read are the week's
pub week_together : (text : List ℕ) (week : ℕ) → length text ≡ 2 → get_or text 0 0 ≡ 119 → number_in (take 1 (drop 1 text)) ≡ Some week → text ≡ 119 ∷ digits 1 week
week_together text week long letter e =
    let rest : length (drop 1 text) ≡ 1 = omega (arith, long, length-drop {A = ℕ}) in
    let piece = piece_read 1 (drop 1 text) week (omega arith) e in
    let after : digits 1 week ≡ drop 1 text = piece.0 ∙ take_all 1 (drop 1 text) (omega arith) in
    let front : drop 0 text ≡ get_or text 0 0 ∷ drop 1 text = drop-cons text 0 0 (omega (arith, long)) in
    front ∙ (ap (λ x. x ∷ drop 1 text) letter ∙ ap (λ xs. 119 ∷ xs) (sym after))

-- and two that are read are the day's
pub day_of_two : (text : List ℕ) (day : ℕ) → length text ≡ 2 → number_in (take 2 text) ≡ Some day → text ≡ digits 2 day
day_of_two text day long e = sym ((piece_read 2 text day (omega (arith, long)) e).0 ∙ take_all 2 text (omega (arith, long)))

-- what is read where a month is
pub record ReadsMonth (text : List ℕ) (month : Month) : Type 0 where
  pub long : 6 ≤ length text
  pub year_read : number_in (take 4 text) ≡ Some month.year
  pub month_read : number_in (take 2 (drop 4 text)) ≡ Some month.month
  pub rest : drop 6 text ≡ part_text month.part

pub month_apart : (text : List ℕ) (month : Month) → FitsMonth month → text ≡ month_text month → ReadsMonth text month
unfolding digits
month_apart text month fits e = rw e (record {
  long = omega arith;
  year_read = read_back 4 month.year fits.year_fits;
  month_read = read_back 2 month.month fits.month_fits;
  rest = refl;
})

pub month_together : (text : List ℕ) (month : Month) → ReadsMonth text month → text ≡ month_text month
month_together text month h =
    let from_four : length (drop 4 text) ≡ length text - 4 = length-drop 4 text in
    let first = piece_read 4 text month.year (omega (arith, h.long)) h.year_read in
    let second = piece_read 2 (drop 4 text) month.month (omega (arith, h.long)) h.month_read in
    let back : digits 2 month.month ++ part_text month.part ≡ drop 4 text =
    ap (λ xs. digits 2 month.month ++ xs) (sym h.rest ∙ sym (drop-drop 2 4 text)) ∙ first_and_rest 2 (digits 2 month.month) (drop 4 text) second.0 in
    sym (ap (λ xs. digits 4 month.year ++ xs) back ∙ first_and_rest 4 (digits 4 month.year) text first.0)
