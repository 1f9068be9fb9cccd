use Rattle.std.proofs.Common.{◌≡◌, map, take}
use Rattle.map_members.specs.Lent.{lent_members}
use Rattle.bridge_mapping.proofs.datatypes.names_of.Given as goal

abbrev pub invariant-loop-code_set : goal.invariant-loop-code_set
invariant-loop-code_set l = l.names ≡ map (λ x. x.name) (lent_members (take l.code_set-index l.code_sets))
