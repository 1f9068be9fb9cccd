use Rattle.std.proofs.Common.{subst, sym}
use Rattle.std.specs.Prelude.{Some}
use Rattle.fix_dates.specs.Clocks.{times_in}
use Rattle.fix_dates.specs.Stamps.{stamps_in}
use Rattle.fix_dates.specs.Reading.{Shows}
use Rattle.fix_values.specs.Values.{Leaves}
use Rattle.bridge_rules.specs.Texts.{moment_text}
use Rattle.bridge_table.specs.Rows.{epoch_of}
use Rattle.value_texts.proofs.Dates.{stamp_left, time_left}
use Rattle.value_texts.proofs.Leaving.{whole}
use Rattle.value_texts.proofs.moments.show_moment.Goals as goal

pub returns-in-Unix : goal.returns-in-Unix
returns-in-Unix c =
    subst (λ u. Leaves c.show_stamp.result c.show_stamp.new.out (moment_text (epoch_of c.args.epoch) u c.args.n)) (sym c.in-Some.is)
    (subst (λ e. Leaves c.show_stamp.result c.show_stamp.new.out (moment_text (epoch_of e) (Some c.in-Some.unit) c.args.n)) (sym c.in-Unix.is)
    (stamp_left c.in-Some.unit c.args.n c.show_stamp.result c.show_stamp.new.out
    (whole (λ n. Shows (stamps_in c.in-Some.unit) n c.show_stamp.result c.show_stamp.new.out) c.args.n c.ranges.n c.show_stamp.ensures)))

pub returns-in-Midnight : goal.returns-in-Midnight
returns-in-Midnight c =
    subst (λ u. Leaves c.show_time.result c.show_time.new.out (moment_text (epoch_of c.args.epoch) u c.args.n)) (sym c.in-Some.is)
    (subst (λ e. Leaves c.show_time.result c.show_time.new.out (moment_text (epoch_of e) (Some c.in-Some.unit) c.args.n)) (sym c.in-Midnight.is)
    (time_left c.in-Some.unit c.args.n c.show_time.result c.show_time.new.out
    (whole (λ n. Shows (times_in c.in-Some.unit) n c.show_time.result c.show_time.new.out) c.args.n c.ranges.n c.show_time.ensures)))
