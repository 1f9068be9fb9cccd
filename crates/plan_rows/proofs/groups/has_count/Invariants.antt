use Rattle.std.proofs.Common.{◌≡◌, ℕ, drop, is_some}
use Rattle.std.specs.Prelude.{codes}
use Rattle.sbe_wire.specs.Named.{spot_named}
use Rattle.plan_rows.proofs.groups.has_count.Given as goal

-- what is left tells what all tell
abbrev pub invariant-loop-member : goal.invariant-loop-member
invariant-loop-member l =
    (e : ℕ) → (f : ℕ) × (is_some (spot_named f (codes "numInGroup") (drop l.member-index l.dim)) ≡ is_some (spot_named e (codes "numInGroup") l.dim))
