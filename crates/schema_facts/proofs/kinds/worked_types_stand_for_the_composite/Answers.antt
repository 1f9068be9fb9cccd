use Rattle.schema_facts.proofs.KindWorked.{types_are_accepted, field_passes, kind_is}
use Rattle.schema_facts.proofs.kinds.worked_types_stand_for_the_composite.Goals as goal

pub returns-clause-accepted : goal.returns-clause-accepted
returns-clause-accepted c = types_are_accepted

pub returns-clause-rules : goal.returns-clause-rules
returns-clause-rules c = field_passes

pub returns-clause-kind : goal.returns-clause-kind
returns-clause-kind c = kind_is
