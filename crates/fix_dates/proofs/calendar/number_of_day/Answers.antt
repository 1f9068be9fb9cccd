use Rattle.std.proofs.Common.{arith, ◌≡◌, pos}
use Rattle.std.proofs.lemmas.Int.{ints}
use Rattle.fix_dates.proofs.CalendarFacts.{number_by}
use Rattle.fix_dates.proofs.calendar.number_of_day.Goals as goal

pub returns-clause-some : goal.returns-clause-some
returns-clause-some c =
    let d = c.in-Ok.date in
    let ymd = c.in-Ok.ensures.value in
    let year : d.year ≡ pos c.args.day.year = omega (arith, ints, ymd.0) in
    let month : d.month ≡ c.args.day.month = omega (arith, ints, ymd.1) in
    let number : d.day ≡ c.args.day.day = omega (arith, ints, ymd.2) in
    let same = number_by c.args.day d year month number in
    omega (arith, ints, c.to_unix_epoch_day.ensures.value)
