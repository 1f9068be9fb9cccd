use Rattle.std.proofs.Common.{◌≡◌, drop}
use Rattle.schema_rules.specs.Kinds.{kind_named, members_of}
use Rattle.schema_rules.specs.Counters.{holds}
use Rattle.type_kinds.proofs.counters.holds.Given as goal

abbrev pub invariant-loop-member : goal.invariant-loop-member
invariant-loop-member l =
    holds (members_of l.types (kind_named l.types) (drop l.member-index l.members)) l.name l.n ≡ holds (members_of l.types (kind_named l.types) l.members) l.name l.n
