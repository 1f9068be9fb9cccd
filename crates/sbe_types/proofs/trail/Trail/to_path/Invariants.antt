use Rattle.std.proofs.Common.{◌≡◌, take}
use Rattle.sbe_types.proofs.trail.Trail.to_path.Given as goal

abbrev pub invariant-loop-step : goal.invariant-loop-step
invariant-loop-step l = l.path ≡ take l.step-index l.step-items
