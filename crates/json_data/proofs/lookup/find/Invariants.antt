use Rattle.std.proofs.Common.{◌≡◌, ◌≤◌, length, take}
use Rattle.serde_json.specs.Find.{get_member}
use Rattle.json_data.specs.Trees.{members_of}
use Rattle.json_data.proofs.lookup.find.Given as goal

abbrev pub invariant-loop-left : goal.invariant-loop-left
invariant-loop-left l = (l.left ≤ length l.members) × (get_member l.name (members_of (take l.left l.members)) ≡ get_member l.name (members_of l.members))

abbrev pub decreases-loop-left : goal.decreases-loop-left
decreases-loop-left l = l.left
