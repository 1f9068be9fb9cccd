use Rattle.std.proofs.Common.{ℕ}
use Rattle.schema_check.proofs.FormLemmas.{StandsFor}
use Rattle.schema_check.proofs.forms.are_same_members.Given as goal

abbrev pub invariant-loop-i : goal.invariant-loop-i
invariant-loop-i l = (e : ℕ) × StandsFor e l.end l.i l.a l.b
