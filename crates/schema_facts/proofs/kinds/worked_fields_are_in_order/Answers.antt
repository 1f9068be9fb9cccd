use denote.Hole.Carrier as carrier
use Rattle.sbe_types.specs.declared.schema.Level.{out-Level, roll-Level}
use Rattle.schema_facts.proofs.KindWorked.{int8_is, uint16_is, int32_is}
use Rattle.schema_facts.proofs.kinds.worked_fields_are_in_order.Goals as goal

pub returns-clause-ping : goal.returns-clause-ping
unfolding out-Level roll-Level carrier.out carrier.roll
returns-clause-ping c = (uint16_is, (int32_is, tt))

pub returns-clause-nul : goal.returns-clause-nul
unfolding out-Level roll-Level carrier.out carrier.roll
returns-clause-nul c = (int8_is, tt)
