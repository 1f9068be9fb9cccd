use Rattle.sbe_wire.proofs.Messages.{message_or_fault}
use Rattle.sbe_wire.proofs.laws.message_or_one_fault.Goals as goal

pub returns : goal.returns
returns c = λ schema placed body. message_or_fault schema placed body
