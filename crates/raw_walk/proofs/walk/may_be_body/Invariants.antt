use Rattle.std.proofs.Common.{◌-◌, ◌≤◌, take}
use Rattle.raw_walk.specs.Recalled.{AreEnds, held_at}
use Rattle.raw_walk.specs.Walks.{Passed, step}
use Rattle.raw_walk.proofs.walk.may_be_body.Given as goal

abbrev pub invariant-loop-at : goal.invariant-loop-at
invariant-loop-at l =
    (l.at ≤ l.front.stop) × Passed l.tags (take l.front.stop l.front.held.now) (step 3 l.begin) (step l.many l.at) × AreEnds (held_at l.front.place l.front.held.now) l.ends

abbrev pub decreases-loop-at : goal.decreases-loop-at
decreases-loop-at l = l.front.stop - l.at
