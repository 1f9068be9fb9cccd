use Rattle.std.proofs.Common.{◌≡◌, drop}
use Rattle.version_project.specs.Pairwise.{all_alike, is_member}
use Rattle.version_project.proofs.differ.kinds.+same_kinds.Given as goal

abbrev pub invariant-are_same_members-loop-i : goal.invariant-are_same_members-loop-i
invariant-are_same_members-loop-i l = all_alike (is_member l.more) (drop l.i l.old) (drop l.i l.new) ≡ all_alike (is_member l.more) l.old l.new
