use Rattle.std.proofs.Common.{take}
use Rattle.text_judge.specs.OwnPairs.{HaveOwnPairs}
use Rattle.text_judge.proofs.pairs.have_own_pairs.Given as goal

abbrev pub invariant-loop-field : goal.invariant-loop-field
invariant-loop-field l = HaveOwnPairs l.tags (take l.field-index l.fields)
