use Rattle.flat_rows.proofs.Bits.{AreBitsOrLeft}
use Rattle.flat_rows.proofs.quick.bits_of.Given as goal

abbrev pub invariant-loop-choice : goal.invariant-loop-choice
invariant-loop-choice l = AreBitsOrLeft l.bits l.choice-index l.choices
