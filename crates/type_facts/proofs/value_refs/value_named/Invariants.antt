use Rattle.std.proofs.Common.{◌≡◌, find, drop}
use Rattle.std.specs.Str.{bytes_eq}
use Rattle.type_facts.proofs.value_refs.value_named.Given as goal

abbrev pub invariant-loop-value : goal.invariant-loop-value
invariant-loop-value l = find (λ v. bytes_eq l.name v.name) (drop l.value-index l.value-items) ≡ find (λ v. bytes_eq l.name v.name) l.value-items
