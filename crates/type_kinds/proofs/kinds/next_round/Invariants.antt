use Rattle.std.proofs.Common.{◌≡◌, take, map}
use Rattle.schema_rules.specs.Kinds.{as_declared, item_kind}
use Rattle.type_kinds.specs.Tables.{table_kind}
use Rattle.type_kinds.proofs.kinds.next_round.Given as goal

abbrev pub invariant-loop-item : goal.invariant-loop-item
invariant-loop-item l = l.next ≡ map (item_kind l.types (table_kind l.types l.table) as_declared) (take l.item-index l.item-items)
