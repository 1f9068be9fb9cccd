use Rattle.flyweight_view.proofs.PartsTold.{part_read, parts_go, parts_seen, parts_rests, end_within}
use Rattle.flyweight_view.proofs.ranges.next_range.Goals as goal

pub part_range-requires-clause-read : goal.part_range-requires-clause-read
part_range-requires-clause-read c = part_read c.args.layer.now c.args.i c.args.at c.at.result.now c.requires.line c.at.ensures

pub returns-clause-line : goal.returns-clause-line
returns-clause-line c =
    parts_go c.args.layer.now c.args.i c.args.at c.at.result.now c.requires.line c.at.ensures c.part_range.result c.part_range.ensures.told
    (end_within c.args.layer.now.body.now c.args.at c.part_range.result c.requires.line.near c.part_range.ensures.range)

pub returns-clause-seen : goal.returns-clause-seen
returns-clause-seen c = parts_seen c.args.layer.now c.args.i c.args.at c.at.result.now c.requires.line c.at.ensures c.part_range.result c.part_range.ensures.told

pub returns-clause-rest : goal.returns-clause-rest
returns-clause-rest c = parts_rests c.args.layer.now c.args.i c.args.at c.at.result.now c.requires.line c.at.ensures c.part_range.result c.part_range.ensures.told
