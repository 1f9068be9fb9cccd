use Rattle.std.proofs.Common.{◌≡◌, drop}
use Rattle.sbe_wire.specs.Misfit.{elements_misfit}
use Rattle.field_bytes.proofs.judge.elements_judge.Given as goal

abbrev pub invariant-loop-at : goal.invariant-loop-at
invariant-loop-at l = elements_misfit l.leaf l.at (drop l.at l.elements) ≡ elements_misfit l.leaf 0 l.elements
