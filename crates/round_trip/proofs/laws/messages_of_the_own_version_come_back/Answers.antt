use Rattle.round_trip.proofs.Returning.{own_comes_back}
use Rattle.round_trip.proofs.laws.messages_of_the_own_version_come_back.Goals as goal

pub returns : goal.returns
returns c = own_comes_back c.kinds_in_order_are_writable.ensures
