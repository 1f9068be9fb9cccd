use Rattle.std.proofs.Common.{◌≡◌, drop}
use Rattle.vectors.specs.Drawing.{each}
use Rattle.vectors.specs.Values.{member_drawn}
use Rattle.vectors.proofs.Gathering.{gathered}
use Rattle.vectors.proofs.kinds.+kind.Given as goal

abbrev pub invariant-draw_members-loop-member : goal.invariant-draw_members-loop-member
invariant-draw_members-loop-member l = gathered l.values (each member_drawn (drop l.member-index l.members) l.words) ≡ each member_drawn l.members l.fn.words
