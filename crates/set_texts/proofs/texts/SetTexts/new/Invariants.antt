use Rattle.std.proofs.Common.{◌≤◌, ◌-◌, ◌++◌, List, length, drop}
use Rattle.set_texts.specs.Runs.{AreRuns, Run}
use Rattle.set_texts.proofs.texts.SetTexts.new.Given as goal

abbrev pub invariant-loop-at : goal.invariant-loop-at
invariant-loop-at l = record {
  within : l.at ≤ length l.codes;
  runs : (later : List Run) → AreRuns later (drop l.at l.codes) → AreRuns (l.runs ++ later) l.codes;
}

abbrev pub decreases-loop-at : goal.decreases-loop-at
decreases-loop-at l = length l.codes - l.at
