use Rattle.sbe_wire.proofs.Messages.{one_message}
use Rattle.sbe_wire.proofs.laws.at_most_one_message.Goals as goal

pub returns : goal.returns
returns c = λ schema placed body m n. one_message schema placed m n body
