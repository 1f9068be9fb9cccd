use Rattle.std.proofs.Common.{sym, ◌∙◌}
use Rattle.regrade.proofs.Whole.{dropped_room, filled_room}
use Rattle.regrade.proofs.regrading.regrade.Goals as goal

pub dropped-requires : goal.dropped-requires
dropped-requires c = dropped_room c.args.from.now c.args.to.now c.args.msg.now c.requires.way c.requires.lies c.schema-read.ensures.order c.schema-written.ensures.order

pub fill-requires : goal.fill-requires
fill-requires c =
    filled_room c.args.from.now c.args.to.now c.args.msg.now c.requires.way c.requires.lies c.schema-read.ensures.order c.schema-written.ensures.order c.in-Ok-Some.moved (sym c.in-Ok-Some.field-0-is ∙ c.in-Ok-Some.ensures)
