use Rattle.std.proofs.Common.{◌≡◌, take}
use Rattle.sbe_types.proofs.+kind.Given as goal

abbrev pub invariant-copy::copied_members-loop-member : goal.invariant-copy::copied_members-loop-member
invariant-copy::copied_members-loop-member l = l.out ≡ take l.member-index l.member-items
