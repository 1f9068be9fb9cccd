use Rattle.std.proofs.Common.{◌≡◌, drop}
use Rattle.line_values.specs.Values.{bit_named}
use Rattle.line_values.proofs.choices.bit_named.Given as goal

abbrev pub invariant-loop-choice : goal.invariant-loop-choice
invariant-loop-choice l = bit_named (drop l.choice-index l.names) l.name ≡ bit_named l.names l.name
