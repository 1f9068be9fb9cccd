use Rattle.std.proofs.Common.{◌≡◌, drop}
use Rattle.sbe_wire.specs.Misfit.{fields_misfit}
use Rattle.tree_codec.proofs.fit.fit_fields.Given as goal

abbrev pub invariant-loop-i : goal.invariant-loop-i
invariant-loop-i l = fields_misfit l.i (drop l.i l.fields) (drop l.i l.values) ≡ fields_misfit 0 l.fields l.values
