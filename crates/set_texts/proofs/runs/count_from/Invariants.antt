use Rattle.std.proofs.Common.{take}
use Rattle.std.specs.List.{AllByRecursion}
use Rattle.set_texts.specs.Runs.{HasPlaceFrom}
use Rattle.set_texts.proofs.runs.count_from.Given as goal

abbrev pub invariant-loop-i : goal.invariant-loop-i
invariant-loop-i l = AllByRecursion (HasPlaceFrom l.first) (take l.i l.codes)
