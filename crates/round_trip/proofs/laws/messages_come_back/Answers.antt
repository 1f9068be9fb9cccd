use Rattle.round_trip.proofs.Returning.{comes_back}
use Rattle.round_trip.proofs.laws.messages_come_back.Goals as goal

pub returns : goal.returns
returns c = comes_back c.kinds_in_order_are_writable.ensures
