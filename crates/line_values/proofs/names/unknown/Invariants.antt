use Rattle.std.proofs.Common.{◌≡◌, option_map, take}
use Rattle.json_data.specs.Trees.{members_of}
use Rattle.line_values.specs.Objects.{first_unknown}
use Rattle.line_values.specs.Code.{names_in}
use Rattle.line_values.proofs.names.unknown.Given as goal

abbrev pub invariant-loop-i : goal.invariant-loop-i
invariant-loop-i l = option_map (λ s. s.now) l.least ≡ first_unknown (names_in l.names) (members_of (take l.i l.members))
