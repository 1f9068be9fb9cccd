use Rattle.std.proofs.Common.{◌≡◌, ◌≤◌, ◌*◌, take}
use Rattle.std.specs.Prelude.{sum}
use Rattle.selftest_command.specs.declared.bytes.TheConstants.{LAST_BYTE}
use Rattle.selftest_command.proofs.bytes.sum_bytes.Given as goal

abbrev pub invariant-loop-byte : goal.invariant-loop-byte
invariant-loop-byte l = (l.total ≡ sum (take l.byte-index l.bytes)) × (l.total ≤ LAST_BYTE * l.byte-index)
