use Rattle.std.proofs.Common.{◌≡◌, length}
use Rattle.set_texts.specs.Runs.{AreParts}
use Rattle.set_texts.proofs.runs.parts_of.Given as goal

abbrev pub invariant-loop-n : goal.invariant-loop-n
invariant-loop-n l = (length l.parts ≡ l.n) × AreParts l.parts l.first l.codes
