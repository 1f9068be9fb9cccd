use Rattle.std.proofs.Common.{◌≡◌, drop}
use Rattle.std.specs.Prelude.{None}
use Rattle.sbe_types.specs.LeafBad.{text_bad}
use Rattle.sbe_types.proofs.BadLemmas.{text_from}
use Rattle.body_walk.proofs.looks.is_text.Given as goal

abbrev pub invariant-loop-byte : goal.invariant-loop-byte
invariant-loop-byte l = text_from l.leaf l.byte-index (drop l.byte-index l.bytes) ≡ None → text_bad l.leaf l.bytes ≡ None
