use Rattle.std.proofs.Common.{◌≡◌, drop}
use Rattle.schema_rules.specs.Facts.{no_members, members_fact}
use Rattle.type_facts.specs.Tables.{table_fact}
use Rattle.type_facts.proofs.facts.+facts.Given as goal

abbrev pub invariant-members_fact-loop-member : goal.invariant-members_fact-loop-member
invariant-members_fact-loop-member l =
    members_fact l.types (table_fact l.types l.table) l.all (drop l.member-index l.members) ≡ members_fact l.types (table_fact l.types l.table) no_members l.members
