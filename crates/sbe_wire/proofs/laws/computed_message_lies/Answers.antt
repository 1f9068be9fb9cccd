use Rattle.sbe_wire.proofs.Messages.{message_judges}
use Rattle.sbe_wire.proofs.laws.computed_message_lies.Goals as goal

pub returns : goal.returns
returns c = λ schema placed body m. (λ h. (message_judges schema placed).sound body m tt h, λ h. (message_judges schema placed).complete body m h)
