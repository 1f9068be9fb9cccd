use Rattle.std.proofs.Common.{◌≡◌, ℕ, drop}
use Rattle.std.specs.Prelude.{codes}
use Rattle.sbe_wire.specs.Named.{spot_named}
use Rattle.back_levels.proofs.Grouped.{leaf_of_spot}
use Rattle.back_levels.proofs.groups.count_of.Given as goal

-- what is left tells what all tell
abbrev pub invariant-loop-member : goal.invariant-loop-member
invariant-loop-member l =
    (e : ℕ) → (f : ℕ) × (leaf_of_spot (spot_named f (codes "numInGroup") (drop l.member-index l.dim)) ≡ leaf_of_spot (spot_named e (codes "numInGroup") l.dim))
