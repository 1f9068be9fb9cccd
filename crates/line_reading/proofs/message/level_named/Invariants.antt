use Rattle.std.proofs.Common.{◌≡◌, drop}
use Rattle.line_reading.specs.Lines.{level_named}
use Rattle.line_reading.proofs.message.level_named.Given as goal

abbrev pub invariant-loop-i : goal.invariant-loop-i
invariant-loop-i l = level_named l.i (drop l.i l.levels) l.name ≡ level_named 0 l.levels l.name
