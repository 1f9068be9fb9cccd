use Rattle.std.proofs.Common.{refl}
use Rattle.var_data.specs.Ranges.{data_range}
use Rattle.flyweight_view.proofs.PartsTold.{part_there, range_stands}
use Rattle.flyweight_view.proofs.ranges.part_range.Goals as goal

pub standing_data-requires-clause-stands : goal.standing_data-requires-clause-stands
standing_data-requires-clause-stands c =
    range_stands c.args.mode c.args.part.now c.args.body.now c.args.at (data_range c.args.mode.order c.args.part.now.length c.args.body.now c.args.at) c.requires.at c.if-part-mode.false c.requires.read refl

pub returns-clause-told : goal.returns-clause-told
returns-clause-told c = (part_there c.args.mode c.args.part.now c.args.body.now c.args.at c.standing_data.result c.requires.at c.if-part-mode.false c.standing_data.ensures).0

pub returns-clause-range : goal.returns-clause-range
returns-clause-range c = (part_there c.args.mode c.args.part.now c.args.body.now c.args.at c.standing_data.result c.requires.at c.if-part-mode.false c.standing_data.ensures).1
