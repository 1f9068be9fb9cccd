use Rattle.std.proofs.Common.{◌≡◌, map, take}
use Rattle.bridge_table.proofs.datatype.texts_of.Given as goal

abbrev pub invariant-loop-code : goal.invariant-loop-code
invariant-loop-code l = l.texts ≡ map (λ c. c.value) (take l.code-index l.codes)
