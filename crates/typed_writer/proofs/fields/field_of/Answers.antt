use Rattle.schema_facts.specs.Levels.{fields_at}
use Rattle.typed_writer.proofs.Lists.{got}
use Rattle.typed_writer.proofs.Setting.{field_order}
use Rattle.typed_writer.proofs.fields.field_of.Goals as goal

pub returns-clause-order : goal.returns-clause-order
returns-clause-order c =
    field_order c.args.layout.now c.args.level c.args.i c.index-fields-i.result c.schema-schema.ensures.order c.requires.level
    (got c.fields.result.now (fields_at c.args.layout.now c.args.level) c.args.i c.index-fields-i.result c.fields.ensures c.requires.field c.index-fields-i.is)
