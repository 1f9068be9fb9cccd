use Rattle.std.proofs.Common.{◌≡◌, drop}
use Rattle.line_reading.specs.Lines.{parts_read}
use Rattle.line_values.specs.Code.{object_members}
use Rattle.line_values.proofs.ListSteps.{with_front}
use Rattle.line_reading.proofs.parts.read_parts.Given as goal

abbrev pub invariant-loop-part : goal.invariant-loop-part
invariant-loop-part l = with_front l.out (parts_read (drop l.part-index l.parts) (object_members l.object)) ≡ parts_read l.parts (object_members l.object)
