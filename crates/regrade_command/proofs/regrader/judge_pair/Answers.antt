use Rattle.regrade_command.specs.Regrade.{FromTo}
use Rattle.regrade_command.proofs.Loaded.{pair_stops}
use Rattle.regrade_command.proofs.regrader.judge_pair.Goals as goal

pub new-requires-clause-way : goal.new-requires-clause-way
new-requires-clause-way c = (c.in-Ok._way, c.in-Ok.ensures)

pub returns-in-Err : goal.returns-in-Err
returns-in-Err c =
    let pair : FromTo = record { from = c.args.from; to = c.args.to } in
    rw c.stop_of.ensures (pair_stops pair c.args.limits.frame c.in-Err.why c.in-Err.ensures)
