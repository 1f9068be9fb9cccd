-- One name for all that a worked row opens.
use denote.Hole.Carrier as carrier
use Rattle.sbe_types.specs.declared.schema.Level as level
use Rattle.sbe_types.specs.declared.schema.Group as group
use Rattle.bridge_plan.proofs.Computing as plans

unfoldable pub computing : Unit {0}
unfolding plans.computing level.out-Level group.out-Group carrier.out
computing = tt
