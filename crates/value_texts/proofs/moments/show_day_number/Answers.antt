use Rattle.fix_dates.specs.Days.{days}
use Rattle.fix_dates.specs.Reading.{Shows}
use Rattle.value_texts.proofs.Dates.{day_left}
use Rattle.value_texts.proofs.Leaving.{whole}
use Rattle.value_texts.proofs.moments.show_day_number.Goals as goal

pub returns : goal.returns
returns c = day_left c.args.n c.show_day.result c.show_day.new.out (whole (λ n. Shows days n c.show_day.result c.show_day.new.out) c.args.n c.ranges.n c.show_day.ensures)
