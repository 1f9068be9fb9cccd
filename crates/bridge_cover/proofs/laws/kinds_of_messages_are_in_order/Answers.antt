use Rattle.bridge_cover.proofs.Kinded.{message_kinds}
use Rattle.bridge_cover.proofs.laws.kinds_of_messages_are_in_order.Goals as goal

pub returns : goal.returns
returns c = message_kinds
