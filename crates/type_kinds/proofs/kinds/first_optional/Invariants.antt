use Rattle.std.proofs.Common.{◌≡◌, take}
use Rattle.schema_rules.specs.Kinds.{first_optional}
use Rattle.type_kinds.proofs.kinds.first_optional.Given as goal

abbrev pub invariant-loop-i : goal.invariant-loop-i
invariant-loop-i l = l.made ≡ first_optional (take l.i l.members)
