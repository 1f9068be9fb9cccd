use Rattle.std.proofs.Common.{◌≡◌, drop}
use Rattle.line_values.specs.Objects.{is_named}
use Rattle.line_values.specs.Keys.{field_names}
use Rattle.line_values.proofs.names.has_field.Given as goal

abbrev pub invariant-loop-field : goal.invariant-loop-field
invariant-loop-field l = is_named l.key (field_names (drop l.field-index l.fields)) ≡ is_named l.key (field_names l.fields)
