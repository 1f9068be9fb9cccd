use Rattle.std.proofs.Common.{◌≡◌, ℕ, drop}
use Rattle.sbe_types.specs.Places.{members_end}
use Rattle.schema_rules.specs.Facts.{counted}
use Rattle.type_kinds.proofs.widths.+widths.Given as goal

abbrev pub invariant-end_of-loop-member : goal.invariant-end_of-loop-member
invariant-end_of-loop-member l = (e : ℕ) × (counted l.end ≡ counted e) × (members_end e (drop l.member-index l.members) ≡ members_end 0 l.members)
