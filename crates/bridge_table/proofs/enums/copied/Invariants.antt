use Rattle.std.proofs.Common.{◌≡◌, take}
use Rattle.bridge_table.proofs.enums.copied.Given as goal

abbrev pub invariant-loop-name : goal.invariant-loop-name
invariant-loop-name l = l.out ≡ take l.name-index l.names
