use Rattle.std.proofs.Common.{◌≡◌, replicate}
use Rattle.sbe_types.specs.declared.message.Elem.TheVariants.{Null}
use Rattle.vectors.proofs.numbers.null_elements.Given as goal

abbrev pub invariant-loop : goal.invariant-loop
invariant-loop l = l.elements ≡ replicate l.counter Null
