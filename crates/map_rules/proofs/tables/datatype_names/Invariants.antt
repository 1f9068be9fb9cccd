use Rattle.std.proofs.Common.{◌≡◌, map, take}
use Rattle.map_members.specs.Lent.{lent_members}
use Rattle.map_rules.proofs.tables.datatype_names.Given as goal

abbrev pub invariant-loop-datatype : goal.invariant-loop-datatype
invariant-loop-datatype l = l.names ≡ map (λ x. x.name) (lent_members (take l.datatype-index l.datatypes))
