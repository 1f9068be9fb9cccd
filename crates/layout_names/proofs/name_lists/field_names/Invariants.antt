use Rattle.std.proofs.Common.{◌≡◌, take}
use Rattle.layout_names.specs.Names.{field_names}
use Rattle.layout_names.proofs.name_lists.field_names.Given as goal

abbrev pub invariant-loop-field : goal.invariant-loop-field
invariant-loop-field l = l.names ≡ field_names (take l.field-index l.fields)
