use Rattle.std.proofs.Common.{◌≡◌, ◌+◌, ◌-◌}
use Rattle.raw_walk.specs.Recalled.{AreSums, held_at}
use Rattle.raw_walk.proofs.sums.Sums.extend.Given as goal

abbrev pub invariant-loop-i : goal.invariant-loop-i
invariant-loop-i l = (l.self.last.at ≡ l.place + l.i) × AreSums (held_at l.place l.held) l.self

abbrev pub decreases-loop-i : goal.decreases-loop-i
decreases-loop-i l = l.to - l.i
