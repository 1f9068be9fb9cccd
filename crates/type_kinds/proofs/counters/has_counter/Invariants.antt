use Rattle.std.proofs.Common.{◌≡◌, drop}
use Rattle.schema_rules.specs.Kinds.{kind_named, members_of}
use Rattle.schema_rules.specs.Counters.{has_counter}
use Rattle.type_kinds.proofs.counters.has_counter.Given as goal

abbrev pub invariant-loop-member : goal.invariant-loop-member
invariant-loop-member l =
    has_counter (members_of l.types (kind_named l.types) (drop l.member-index l.members)) l.name ≡ has_counter (members_of l.types (kind_named l.types) l.members) l.name
