use Rattle.std.proofs.Common.{◌≡◌, ◌+◌, ◌*◌, drop}
use Rattle.sbe_types.specs.declared.kind.Kind.{Comp}
use Rattle.schema_facts.specs.InOrder.{height}
use Rattle.kind_bytes.specs.Misfits.{members_misfit}
use Rattle.kind_bytes.proofs.judge.+kind.Given as goal

abbrev pub invariant-fits_members-loop-i : goal.invariant-fits_members-loop-i
invariant-fits_members-loop-i l = members_misfit l.i (drop l.i l.members) (drop l.i l.values) ≡ members_misfit 0 l.members l.values

abbrev pub decreases-fits_kind : goal.decreases-fits_kind
decreases-fits_kind l = 3 * height l.kind.now + 2

abbrev pub decreases-fits_composite : goal.decreases-fits_composite
decreases-fits_composite l = 3 * height (Comp l.members.now) + 1

abbrev pub decreases-fits_members : goal.decreases-fits_members
decreases-fits_members l = 3 * height (Comp l.members.now)
