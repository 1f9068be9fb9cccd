use Rattle.std.proofs.Common.{◌≡◌, drop}
use Rattle.line_values.specs.Objects.{is_named}
use Rattle.line_values.specs.Keys.{data_names}
use Rattle.line_values.proofs.names.has_part.Given as goal

abbrev pub invariant-loop-part : goal.invariant-loop-part
invariant-loop-part l = is_named l.key (data_names (drop l.part-index l.parts)) ≡ is_named l.key (data_names l.parts)
