use Rattle.std.proofs.Common.{take}
use Rattle.std.specs.List.{AllByRecursion}
use Rattle.line_values.proofs.HexKeys.{IsHexKey}
use Rattle.line_values.proofs.texts.is_hex.Given as goal

abbrev pub invariant-loop-key : goal.invariant-loop-key
invariant-loop-key l = AllByRecursion IsHexKey (take l.key-index l.members)
