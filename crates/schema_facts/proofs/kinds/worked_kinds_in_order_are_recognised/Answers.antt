use Rattle.schema_facts.proofs.KindWorked.{order_is, number_twice_is_not, bit_above_is_not, name_twice_is_not}
use Rattle.schema_facts.proofs.kinds.worked_kinds_in_order_are_recognised.Goals as goal

pub returns-clause-order : goal.returns-clause-order
returns-clause-order c = order_is

pub returns-clause-number : goal.returns-clause-number
returns-clause-number c = number_twice_is_not

pub returns-clause-bit : goal.returns-clause-bit
returns-clause-bit c = bit_above_is_not

pub returns-clause-name : goal.returns-clause-name
returns-clause-name c = name_twice_is_not
