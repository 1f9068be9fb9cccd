use Rattle.std.proofs.Common.{◌≡◌}
use Rattle.std.specs.Prelude.{slice_get}
use Rattle.field_lookup.proofs.places.nth_of.Given as goal

abbrev pub invariant-loop-entry : goal.invariant-loop-entry
invariant-loop-entry l = slice_get l.entry-iterator l.before ≡ slice_get l.fn.entries l.fn.n
