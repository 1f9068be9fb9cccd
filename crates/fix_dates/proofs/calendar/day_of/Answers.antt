use Rattle.std.proofs.Common.{arith, ◌≡◌, ◌∙◌, neg_ℤ, pos, ◌≤ℤ◌}
use Rattle.std.proofs.lemmas.Int.{ints}
use Rattle.jiff_core.specs.Date.{epoch_day}
use Rattle.jiff_core.proofs.SignedLemmas.{signed_arith}
use Rattle.fix_dates.proofs.CalendarFacts.{number_range, year_not_negative, year_fits, size_fits, same_number}
use Rattle.fix_dates.proofs.calendar.day_of.Goals as goal
use Rattle.fix_dates.proofs.calendar.day_of.Goals.{then-n-lt-FIRST-via-then-n-lt-FIRST, then-n-lt-FIRST-via-else-n-lt-FIRST+then-n-gt-LAST}

pub returns-then-n-lt-FIRST-clause-none : goal.returns-then-n-lt-FIRST-clause-none
returns-then-n-lt-FIRST-clause-none c = λ day real within e.
    let range = number_range day real within in
    elim c.then-n-lt-FIRST.branch [
      | then-n-lt-FIRST-via-then-n-lt-FIRST w ↦ omega (arith, signed_arith)
      | then-n-lt-FIRST-via-else-n-lt-FIRST+then-n-gt-LAST w ↦ omega (arith, signed_arith)
    ]

pub overflow_cast-result : goal.overflow_cast-result
overflow_cast-result c =
    let d = c.in-Ok.date in
    let named = c.in-Ok.ensures.value in
    let low : neg_ℤ (pos 719_528) ≤ℤ epoch_day d = omega (arith, ints, named) in
    let positive = year_not_negative d low in
    rw (year_fits d.year positive d.year_in.1) (size_fits d.year positive d.year_in.1)

pub returns-clause-number : goal.returns-clause-number
returns-clause-number c =
    let d = c.in-Ok.date in
    let named = c.in-Ok.ensures.value in
    let low : neg_ℤ (pos 719_528) ≤ℤ epoch_day d = omega (arith, ints, named) in
    let positive = year_not_negative d low in
    let same : epoch_day d ≡ c.args.n = omega (arith, ints, named) in
    rw (year_fits d.year positive d.year_in.1) (same_number d low ∙ same)
