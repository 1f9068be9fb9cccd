use Rattle.std.proofs.Common.{◌≡◌, drop}
use Rattle.std.specs.List.{list_any}
use Rattle.schema_rules.specs.Chains.{member_has}
use Rattle.type_facts.specs.Tables.{table_chain}
use Rattle.type_facts.proofs.chains.+chains.Given as goal

abbrev pub invariant-go_members_on-loop-member : goal.invariant-go_members_on-loop-member
invariant-go_members_on-loop-member l =
    list_any (member_has (table_chain l.types l.table)) (drop l.member-index l.members) ≡ list_any (member_has (table_chain l.types l.table)) l.members
