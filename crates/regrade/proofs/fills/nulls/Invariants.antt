use Rattle.std.proofs.Common.{◌≡◌}
use Rattle.std.specs.Prelude.{replicate}
use Rattle.sbe_types.specs.declared.message.Elem.TheVariants.{Null}
use Rattle.regrade.proofs.fills.nulls.Given as goal

abbrev pub invariant-loop-i : goal.invariant-loop-i
invariant-loop-i l = l.elements ≡ replicate l._i Null
