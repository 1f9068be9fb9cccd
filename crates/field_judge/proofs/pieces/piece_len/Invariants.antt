use Rattle.field_judge.proofs.Cutting.{IsFrontSoFar}
use Rattle.field_judge.proofs.pieces.piece_len.Given as goal

abbrev pub invariant-loop-i : goal.invariant-loop-i
invariant-loop-i l = IsFrontSoFar l.delimiter l.run l.i
