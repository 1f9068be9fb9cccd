use Rattle.std.proofs.Common.{◌≡◌, drop}
use Rattle.line_values.specs.Values.{number_named}
use Rattle.line_values.proofs.choices.number_named.Given as goal

abbrev pub invariant-loop-value : goal.invariant-loop-value
invariant-loop-value l = number_named (drop l.value-index l.names) l.name ≡ number_named l.names l.name
