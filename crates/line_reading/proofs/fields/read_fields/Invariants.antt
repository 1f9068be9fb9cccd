use Rattle.std.proofs.Common.{◌≡◌, drop}
use Rattle.line_reading.specs.Lines.{fields_read}
use Rattle.line_values.specs.Code.{object_members}
use Rattle.line_values.proofs.ListSteps.{with_front}
use Rattle.line_reading.proofs.fields.read_fields.Given as goal

abbrev pub invariant-loop-field : goal.invariant-loop-field
invariant-loop-field l = with_front l.out (fields_read (drop l.field-index l.fields) (object_members l.object)) ≡ fields_read l.fields (object_members l.object)
