use Rattle.std.proofs.Common.{◌≡◌, map, take}
use Rattle.sbe_types.specs.declared.schema.Level.{out-Level}
use Rattle.message_plans.proofs.kinds.kinds_of.Given as goal

abbrev pub invariant-loop-level : goal.invariant-loop-level
invariant-loop-level l = l.kinds ≡ map (λ x. (out-Level x).semantic) (take l.level-index l.levels)
