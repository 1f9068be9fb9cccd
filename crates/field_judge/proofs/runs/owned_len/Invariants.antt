use Rattle.field_judge.proofs.RunLemmas.{IsRunSoFar}
use Rattle.field_judge.proofs.runs.owned_len.Given as goal

abbrev pub invariant-loop-i : goal.invariant-loop-i
invariant-loop-i l = IsRunSoFar l.owned l.fields l.i
