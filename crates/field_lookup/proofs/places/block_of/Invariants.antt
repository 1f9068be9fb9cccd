use Rattle.std.proofs.Common.{◌≡◌, drop}
use Rattle.field_lookup.specs.Places.{block_at, block_of}
use Rattle.field_lookup.proofs.places.block_of.Given as goal

abbrev pub invariant-loop-step : goal.invariant-loop-step
invariant-loop-step l = block_at (drop l.step-index l.steps) l.block ≡ block_of l.steps l.view
