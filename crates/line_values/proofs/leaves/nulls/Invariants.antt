use Rattle.std.proofs.Common.{◌≡◌, replicate}
use Rattle.sbe_types.specs.declared.message.Elem.TheVariants as elem
use Rattle.line_values.proofs.leaves.nulls.Given as goal

abbrev pub invariant-loop : goal.invariant-loop
invariant-loop l = l.out ≡ replicate l.counter elem.Null
