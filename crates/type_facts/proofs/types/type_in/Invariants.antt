use Rattle.std.proofs.Common.{◌≡◌, find, drop}
use Rattle.std.specs.Str.{bytes_eq}
use Rattle.schema_rules.specs.Names.{name_of}
use Rattle.type_facts.proofs.types.type_in.Given as goal

abbrev pub invariant-loop-item : goal.invariant-loop-item
invariant-loop-item l = find (λ t. bytes_eq l.name (name_of t)) (drop l.item-index l.types) ≡ find (λ t. bytes_eq l.name (name_of t)) l.types
