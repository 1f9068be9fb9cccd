-- Days and times of day put together, and the text of a moment taken apart.
use Rattle.std.proofs.Common.{◌≡◌, ℕ, ◌+◌, ◌-◌, ◌*◌, ◌<◌, ◌≤◌, ◌^◌, inl, inr, ℤ, pos, ◌+ℤ◌, ◌*ℤ◌, ◌<ℤ◌, List, length, take, drop, get_or, refl, sym, ap, arith}
use Rattle.std.proofs.Math.Nat.{mul-lt-mul_of_pos_right, one-le-pow}
use Rattle.std.proofs.lemmas.Bool.{cases_order}
use Rattle.std.proofs.lemmas.Int.{by_lt_z}
use Rattle.jiff_core.proofs.SignedLemmas.{signed_arith}
use borrow.Author.Differences.{up, down}
use Rattle.fix_dates.specs.declared.calendar.Day.{Day}
use Rattle.fix_dates.specs.declared.clock.Clock.{Clock}
use Rattle.fix_dates.specs.declared.stamp.Stamp.{Stamp}
use Rattle.fix_dates.specs.Digits.{digits}
use Rattle.fix_dates.specs.Calendar.{IsDay}
use Rattle.fix_dates.specs.Days.{day_text, FitsDay}
use Rattle.fix_dates.specs.Clocks.{clock_text, FitsClock, IsTime, count_of}
use Rattle.fix_dates.specs.Stamps.{stamp_text}

-- what stands where in the text of a moment
pub record StampParts (text : List ℕ) (stamp : Stamp) : Type 0 where
  pub long : 9 ≤ length text
  pub dash : get_or text 8 0 ≡ 45
  pub day_first : take 8 text ≡ day_text stamp.day
  pub clock_last : drop 9 text ≡ clock_text stamp.clock

pub stamp_apart : (text : List ℕ) (stamp : Stamp) → text ≡ stamp_text stamp → StampParts text stamp
unfolding digits
stamp_apart text stamp e = rw e (record { long = omega arith; dash = refl; day_first = refl; clock_last = refl })

-- a time of day is less than a day
pub count_below : (clock : Clock) → FitsClock clock → IsTime clock → count_of clock < 86_400 * 10 ^ clock.places
count_below clock fits real =
    let power = 10 ^ clock.places in
    let seconds = (clock.hour * 60 + clock.minute) * 60 + clock.second in
    let some : 0 < power = one-le-pow clock.places 10 (omega arith) in
    let low : seconds < 86_400 = omega (arith, real.hour_high, real.minute_high, real.second_high) in
    let left = 86_400 - seconds - 1 in
    let all : seconds + 1 + left ≡ 86_400 = omega arith in
    let much : (seconds + 1 + left) * power ≡ 86_400 * power = ap (λ k. k * power) all in
    omega (arith, fits.fraction_fits)

-- whole days and less than a day are the same days where they are as long
not_before : (units : ℕ) (a b : ℤ) (c d : ℕ) → c < units → d < units → (a *ℤ pos units) +ℤ pos c ≡ (b *ℤ pos units) +ℤ pos d → ¬ (a <ℤ b)
not_before units a b c d low high e less =
    let days = up b + down a - (up a + down b) in
    let later : up b + down a ≡ up a + down b + days = omega (arith, signed_arith) in
    let some : 1 ≤ days = omega (arith, signed_arith) in
    let more = days - 1 in
    let one : days ≡ more + 1 = omega arith in
    let scaled : (up b + down a) * units ≡ (up a + down b + days) * units = ap (λ k. k * units) later in
    let split : days * units ≡ (more + 1) * units = ap (λ k. k * units) one in
    omega (arith, signed_arith)

pub one_day : (units : ℕ) (a b : ℤ) (c d : ℕ) → c < units → d < units → (a *ℤ pos units) +ℤ pos c ≡ (b *ℤ pos units) +ℤ pos d → a ≡ b
one_day units a b c d low high e =
    by_lt_z a b (λ less. absurd (not_before units a b c d low high e less))
    (λ more. by_lt_z b a (λ less. absurd (not_before units b a d c high low (sym e) less)) (λ same. omega (arith, signed_arith)))

-- nanoseconds and units of the last place are as long with whole days in front, where they are without
pub moment_is : (days : ℤ) (power count nanos : ℕ) → nanos * power ≡ count * 10 ^ 9 → ((days *ℤ pos 86_400_000_000_000) +ℤ pos nanos) *ℤ pos power ≡ ((days *ℤ pos (86_400 * power)) +ℤ pos count) *ℤ pos (10 ^ 9)
moment_is days power count nanos e =
    let whole = (days *ℤ pos 86_400_000_000_000) +ℤ pos nanos in
    let sum : up whole + down days * 86_400_000_000_000 ≡ down whole + up days * 86_400_000_000_000 + nanos = omega (arith, signed_arith) in
    let scaled : (up whole + down days * 86_400_000_000_000) * power ≡ (down whole + up days * 86_400_000_000_000 + nanos) * power = ap (λ k. k * power) sum in
    omega (arith, signed_arith)

-- and are a whole number without them where they are with them
pub moment_whole : (days nanos : ℤ) (power count : ℕ) → 0 < power → nanos *ℤ pos power ≡ ((days *ℤ pos (86_400 * power)) +ℤ pos count) *ℤ pos (10 ^ 9) → (rest : ℕ) × (rest * power ≡ count * 10 ^ 9)
moment_whole days nanos power count some e =
    let late = up nanos + down days * 86_400_000_000_000 in
    let soon = down nanos + up days * 86_400_000_000_000 in
    let gap : late * power ≡ soon * power + count * 10 ^ 9 = omega (arith, signed_arith) in
    elim (cases_order late soon) [
      | inl same ↦ (0, let all : late * power ≡ soon * power = ap (λ k. k * power) same in omega arith)
      | inr (inl less) ↦ absurd (let short : late * power < soon * power = mul-lt-mul_of_pos_right less some in omega arith)
      | inr (inr more) ↦
          let rest = late - soon in
          let split : late ≡ soon + rest = omega arith in
          let all : late * power ≡ (soon + rest) * power = ap (λ k. k * power) split in
          (rest, omega arith)
    ]

-- the parts of a day of the calendar fit their digits
pub day_fits : (day : Day) → IsDay day → day.year < 10000 → FitsDay day
day_fits day real within =
    let month = real.month_high in
    let last = real.day_high in
    record { year = within; month = omega arith; day = grind (arith, last) }
