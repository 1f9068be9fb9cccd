use Rattle.sbe_wire.proofs.Messages.{not_both}
use Rattle.sbe_wire.proofs.laws.no_fault_of_a_message.Goals as goal

pub returns : goal.returns
returns c = λ schema placed body m f. not_both schema placed m f body
