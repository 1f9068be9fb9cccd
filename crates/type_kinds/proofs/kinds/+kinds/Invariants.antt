use Rattle.std.proofs.Common.{◌≡◌, take}
use Rattle.schema_rules.specs.Kinds.{members_of}
use Rattle.type_kinds.specs.Tables.{table_kind}
use Rattle.type_kinds.proofs.kinds.+kinds.Given as goal

abbrev pub invariant-members_of-loop-member : goal.invariant-members_of-loop-member
invariant-members_of-loop-member l = l.made ≡ members_of l.types (table_kind l.types l.table) (take l.member-index l.members)
