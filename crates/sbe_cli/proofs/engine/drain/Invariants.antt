use Rattle.std.proofs.Common.{◌-◌}
use Rattle.replies.specs.Outside.{streams_of}
use Rattle.command_steps.specs.Splits.{most_pieces}
use Rattle.sbe_cli.specs.Jobs.{reading_of}
use Rattle.sbe_cli.proofs.Draining.{IsDraining}
use Rattle.sbe_cli.proofs.engine.drain.Given as goal

abbrev pub invariant-steps : goal.invariant-steps
invariant-steps g l = IsDraining l.fn.pump.job l.pump
    (streams_of (g.I.Source.state l.fn.input) (g.O.Sink.state l.fn.output) (g.N.Sink.state l.fn.notes))
    (streams_of (g.I.Source.state l.input) (g.O.Sink.state l.output) (g.N.Sink.state l.notes))

abbrev pub decreases-steps : goal.decreases-steps
decreases-steps g l = most_pieces (reading_of l.pump.job) - l.pump.at.kept.items
