use Rattle.std.proofs.Common.{◌≤◌, ◌-◌, length, drop}
use Rattle.code_search.specs.Growing.{AreGrowing}
use Rattle.code_search.proofs.search.are_growing.Given as goal

abbrev pub invariant-loop-at : goal.invariant-loop-at
invariant-loop-at l = record {
  within : l.at ≤ length l.codes;
  grow : AreGrowing (drop (l.at - 1) l.codes);
}

abbrev pub decreases-loop-at : goal.decreases-loop-at
decreases-loop-at l = l.at
