use Rattle.layout_compile.proofs.DataParts.{FirstsAre}
use Rattle.layout_compile.proofs.numbers.firsts_of.Given as goal

abbrev pub invariant-loop-row : goal.invariant-loop-row
invariant-loop-row l = FirstsAre l.levels l.row-index l.before l.firsts.items
