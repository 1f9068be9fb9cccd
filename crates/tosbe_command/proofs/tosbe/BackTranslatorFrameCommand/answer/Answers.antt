use Rattle.std.proofs.Common.{length, subst, arith}
use Rattle.open_framing.specs.Frames.{Item}
use Rattle.replies.specs.Outside.{Sinks, sinks_of}
use Rattle.command_steps.specs.Replies.{Replied}
use Rattle.tosbe_command.specs.Bridges.{BackBridge}
use Rattle.tosbe_command.specs.ToSbe.{IsToSbeReply}
use Rattle.tosbe_command.proofs.Replied.{may_want}
use Rattle.tosbe_command.proofs.tosbe.BackTranslatorFrameCommand.answer.Goals as goal

pub answer_frame-requires-clause-room : goal.answer_frame-requires-clause-room
answer_frame-requires-clause-room g c = omega (arith, c.self.invariant.limit_is, c.self.invariant.most)

pub answer_frame-requires-clause-size : goal.answer_frame-requires-clause-size
answer_frame-requires-clause-size g c = c.self.invariant.limit_is

pub returns-clause-replied : goal.returns-clause-replied
returns-clause-replied g c =
    let item : Item = record { encoding = c.args.encoding; body = c.args.body.now } in
    let old : Sinks = sinks_of (g.O.Sink.state c.args.output.now) (g.N.Sink.state c.args.notes.now) in
    let new : Sinks = sinks_of (g.O.Sink.state c.answer_frame.new.output) (g.N.Sink.state c.answer_frame.new.notes) in
    subst (λ (b : BackBridge). Replied (length c.args.body.now) (IsToSbeReply b c.args.kept.now item) old new c.answer_frame.result) c.self.view_is c.answer_frame.ensures.replied

pub returns-clause-wants : goal.returns-clause-wants
returns-clause-wants g c = may_want c.answer_frame.result
