use Rattle.std.proofs.Common.{◌≡◌, drop}
use Rattle.sbe_types.specs.LeafBad.{text_bad}
use Rattle.sbe_types.proofs.BadLemmas.{text_from}
use Rattle.sbe_types.proofs.leaf.judge_text.Given as goal

abbrev pub invariant-loop-at : goal.invariant-loop-at
invariant-loop-at l = text_from l.leaf l.at (drop l.at l.bytes) ≡ text_bad l.leaf l.bytes
