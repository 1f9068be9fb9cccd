-- One name for all that a worked row opens: a proof with the line `unfolding computing` computes.
use Rattle.sbe_wire.proofs.Computing as wire
use Rattle.tree_json.proofs.Computing as tree

unfoldable pub computing : Unit {0}
unfolding wire.computing tree.computing
computing = tt
