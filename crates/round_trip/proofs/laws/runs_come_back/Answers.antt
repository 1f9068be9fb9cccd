use Rattle.round_trip.proofs.Runs.{run_back}
use Rattle.round_trip.proofs.laws.runs_come_back.Goals as goal

pub returns : goal.returns
returns c = λ on back limits others input items end first second one wide split can within a b. run_back c.kinds_in_order_are_writable.ensures on back one limits others wide input items end first second split can within a b
