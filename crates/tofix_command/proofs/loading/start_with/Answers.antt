use Rattle.map_types.specs.Trees.{members_of}
use Rattle.bridge_mapping.specs.Mapped.{mapping_of}
use Rattle.tofix_command.proofs.Finding.{alone_is, alone_in_order, alone_planned}
use Rattle.tofix_command.proofs.loading.start_with.Goals as goal

pub returns-clause-schemas : goal.returns-clause-schemas
returns-clause-schemas c = alone_is c.in_ok-first.first c.new.result c.new.ensures c.args.first.now c.in_ok-first.ensures.layout

pub returns-clause-order : goal.returns-clause-order
returns-clause-order c = alone_in_order c.in_ok-first.first c.new.result c.new.ensures c.schema-schema.ensures.order

pub returns-clause-planned : goal.returns-clause-planned
returns-clause-planned c = alone_planned c.in_ok-first.first c.new.result c.new.ensures (mapping_of (members_of c.args.repository.now)) c.in_ok-first.ensures.planned
