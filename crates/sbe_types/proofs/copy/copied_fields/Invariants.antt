use Rattle.std.proofs.Common.{◌≡◌, take}
use Rattle.sbe_types.proofs.copy.copied_fields.Given as goal

abbrev pub invariant-loop-field : goal.invariant-loop-field
invariant-loop-field l = l.out ≡ take l.field-index l.field-items
