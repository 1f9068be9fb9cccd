use Rattle.sbe_types.proofs.Trails.{none_left}
use Rattle.sbe_types.proofs.trail.Trail.clear.Goals as goal

pub returns : goal.returns
returns c = none_left c.self.inside.steps 20 c.self.invariant.1
