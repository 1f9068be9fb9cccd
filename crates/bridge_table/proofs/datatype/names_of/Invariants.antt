use Rattle.std.proofs.Common.{◌≡◌, map, take}
use Rattle.bridge_table.proofs.datatype.names_of.Given as goal

abbrev pub invariant-loop-code : goal.invariant-loop-code
invariant-loop-code l = l.names ≡ map (λ c. c.name) (take l.code-index l.codes)
