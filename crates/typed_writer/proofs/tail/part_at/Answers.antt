use Rattle.schema_facts.specs.Levels.{parts_at}
use Rattle.typed_writer.proofs.Lists.{got}
use Rattle.typed_writer.proofs.Parting.{part_order}
use Rattle.typed_writer.proofs.tail.part_at.Goals as goal

pub returns-clause-order : goal.returns-clause-order
returns-clause-order c =
    part_order c.args.layout.now c.args.level c.args.i c.index-parts-i.result c.schema-schema.ensures.order c.requires.level
    (got c.parts.result.now (parts_at c.args.layout.now c.args.level) c.args.i c.index-parts-i.result c.parts.ensures c.requires.part c.index-parts-i.is)
