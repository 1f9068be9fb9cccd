use Rattle.std.proofs.Common.{◌≡◌, drop}
use Rattle.regrade.specs.Each.{fill_each}
use Rattle.regrade.proofs.FillValues.{with_front}
use Rattle.regrade.proofs.fills.+fill.Given as goal

abbrev pub invariant-member_fills-loop-member : goal.invariant-member_fills-loop-member
invariant-member_fills-loop-member l = with_front l.values (fill_each (drop l.member-index l.members)) ≡ fill_each l.members
