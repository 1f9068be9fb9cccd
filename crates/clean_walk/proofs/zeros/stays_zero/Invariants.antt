use Rattle.std.proofs.Common.{◌≡◌, drop, false}
use Rattle.clean_walk.specs.inner.Zeros.{stays_zero}
use Rattle.clean_walk.proofs.zeros.stays_zero.Given as goal

abbrev pub invariant-loop-byte : goal.invariant-loop-byte
invariant-loop-byte l = stays_zero l.ended (drop l.byte-index l.bytes) ≡ stays_zero false l.bytes
