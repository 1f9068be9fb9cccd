use Rattle.std.proofs.Common.{◌≡◌, ◌-◌, ◌≤◌, ◌<◌, length, drop}
use Rattle.tagvalue_codec.specs.Reading.{tag_read, tag_after}
use Rattle.raw_walk.proofs.scan.tag_at.Given as goal

abbrev pub invariant-loop-i : goal.invariant-loop-i
invariant-loop-i l = (l.at < l.i) × (l.i ≤ length l.text) × (l.tag < 1000000000) × (tag_read (drop l.at l.text) ≡ tag_after l.tag (drop l.i l.text))

abbrev pub decreases-loop-i : goal.decreases-loop-i
decreases-loop-i l = length l.text - l.i
