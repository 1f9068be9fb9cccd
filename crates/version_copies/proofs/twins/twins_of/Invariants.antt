use Rattle.std.specs.List.{All}
use Rattle.version_copies.specs.Copies.{IsTwin}
use Rattle.version_copies.proofs.twins.twins_of.Given as goal

abbrev pub invariant-loop-template : goal.invariant-loop-template
invariant-loop-template l = All (IsTwin l.from l.to) l.twins
