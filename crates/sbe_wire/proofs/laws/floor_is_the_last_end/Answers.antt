use Rattle.std.proofs.Common.{arith}
use Rattle.sbe_wire.proofs.PlaceLemmas.{floor_holds, floor_met}
use Rattle.sbe_wire.proofs.laws.floor_is_the_last_end.Goals as goal

pub returns-clause-holds : goal.returns-clause-holds
returns-clause-holds c = λ version fields placed. floor_holds version 0 0 fields (omega arith) placed

pub returns-clause-met : goal.returns-clause-met
returns-clause-met c = λ version fields. floor_met version 0 0 fields
