use Rattle.std.proofs.Common.{◌≡◌, drop}
use Rattle.json_values.specs.Values.{name_of}
use Rattle.json_values.proofs.values.name_of.Given as goal

abbrev pub invariant-loop-named : goal.invariant-loop-named
invariant-loop-named l = name_of (drop l.named-index l.names) l.n ≡ name_of l.names l.n
