use Rattle.message_walk.proofs.Trails.{no_steps}
use Rattle.message_walk.proofs.trail.Trail.clear.Goals as goal

pub returns : goal.returns
returns c = no_steps c.self.inside.steps 20 c.self.invariant.1
