-- The eight digits of a day, taken apart and put together.
use Rattle.std.proofs.Common.{◌≡◌, ℕ, ◌<◌, Some, List, ◌++◌, length, take, drop, refl, sym, ap, ◌∙◌, arith}
use Rattle.std.proofs.lemmas.List.{length-drop, take_all, drop-drop}
use Rattle.fix_dates.specs.declared.calendar.Day.{Day}
use Rattle.fix_dates.specs.Digits.{digits, number_in}
use Rattle.fix_dates.specs.Days.{day_text, FitsDay}
use Rattle.fix_dates.proofs.DigitFacts.{read_back, piece_read, first_and_rest}

-- the numbers that are read in a day's text
pub record ReadsDay (text : List ℕ) (year month number : ℕ) : Type 0 where
  pub long : length text ≡ 8
  pub year_read : number_in (take 4 text) ≡ Some year
  pub month_read : number_in (take 2 (drop 4 text)) ≡ Some month
  pub number_read : number_in (take 2 (drop 6 text)) ≡ Some number

-- a day's text is read as its year, month and day
pub day_apart : (text : List ℕ) (day : Day) → FitsDay day → text ≡ day_text day → ReadsDay text day.year day.month day.day
unfolding digits
day_apart text day fits e = rw e (record {
  long = refl;
  year_read = read_back 4 day.year fits.year;
  month_read = read_back 2 day.month fits.month;
  number_read = read_back 2 day.day fits.day;
})

-- and a text that is so read is the day's
pub day_together : (text : List ℕ) (year month number : ℕ) → ReadsDay text year month number → (text ≡ digits 4 year ++ (digits 2 month ++ digits 2 number)) × (year < 10000) × (month < 100) × (number < 100)
day_together text year month number h =
    let rest : length (drop 4 text) ≡ 4 = omega (arith, h.long, length-drop {A = ℕ}) in
    let last : length (drop 6 text) ≡ 2 = omega (arith, h.long, length-drop {A = ℕ}) in
    let first = piece_read 4 text year (omega (arith, h.long)) h.year_read in
    let second = piece_read 2 (drop 4 text) month (omega arith) h.month_read in
    let third = piece_read 2 (drop 6 text) number (omega arith) h.number_read in
    let end : digits 2 number ≡ drop 6 text = third.0 ∙ take_all 2 (drop 6 text) (omega arith) in
    let back : digits 2 month ++ digits 2 number ≡ drop 4 text = ap (λ xs. digits 2 month ++ xs) (end ∙ sym (drop-drop 2 4 text)) ∙ first_and_rest 2 (digits 2 month) (drop 4 text) second.0 in
    (sym (ap (λ xs. digits 4 year ++ xs) back ∙ first_and_rest 4 (digits 4 year) text first.0), first.1, second.1, third.1)
