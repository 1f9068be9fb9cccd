use Rattle.schema_facts.proofs.KindLists.{made_members}
use Rattle.schema_facts.proofs.KindMembers.{members_kinds}
use Rattle.schema_facts.proofs.kinds.members_of_kinds_are_in_order.Goals as goal

pub returns-clause-names : goal.returns-clause-names
returns-clause-names c = λ ms h. (made_members 1 ms h.parts).names

pub returns-clause-differ : goal.returns-clause-differ
returns-clause-differ c = λ ms h. (made_members 1 ms h.parts).differ

pub returns-clause-kinds : goal.returns-clause-kinds
returns-clause-kinds c = members_kinds
