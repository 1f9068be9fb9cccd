use Rattle.std.proofs.Common.{◌≡◌, drop}
use Rattle.vectors.specs.Messages.{leaf_named}
use Rattle.vectors.proofs.blocks.leaf_named.Given as goal

abbrev pub invariant-loop-member : goal.invariant-loop-member
invariant-loop-member l = leaf_named l.name (drop l.member-index l.members) ≡ leaf_named l.name l.members
