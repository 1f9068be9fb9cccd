use Rattle.std.proofs.Common.{◌≡◌, map, take}
use Rattle.exact_plans.specs.Exact.{is_exact}
use Rattle.text_judge.proofs.judge.exact_levels.Given as goal

abbrev pub invariant-loop-level : goal.invariant-loop-level
invariant-loop-level l = l.marks ≡ map is_exact (take l.level-index l.levels)
