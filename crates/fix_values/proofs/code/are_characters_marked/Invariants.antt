use Rattle.std.proofs.Common.{◌≡◌, true, drop}
use Rattle.fix_values.specs.Tables.{are_marked}
use Rattle.fix_values.proofs.code.are_characters_marked.Given as goal

abbrev pub invariant-loop-byte : goal.invariant-loop-byte
invariant-loop-byte l = are_marked l.here l.marks (drop l.byte-index l.text) ≡ are_marked true l.marks l.text
