use Rattle.sbe_wire.proofs.Messages.{message_judges}
use Rattle.sbe_wire.proofs.laws.computed_fault_is_first.Goals as goal

pub returns : goal.returns
returns c = λ schema placed body f. (λ h. (message_judges schema placed).told body f tt h, λ h. (message_judges schema placed).only body f h)
