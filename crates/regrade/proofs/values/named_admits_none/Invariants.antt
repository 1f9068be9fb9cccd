use Rattle.std.proofs.Common.{◌≡◌, drop}
use Rattle.regrade.specs.Each.{named_admits_none}
use Rattle.regrade.proofs.values.named_admits_none.Given as goal

abbrev pub invariant-loop-member : goal.invariant-loop-member
invariant-loop-member l = named_admits_none l.fn.name (drop l.member-index l.fn.members) ≡ named_admits_none l.fn.name l.fn.members
