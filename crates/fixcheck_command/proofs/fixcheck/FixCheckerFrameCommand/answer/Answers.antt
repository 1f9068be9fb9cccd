use Rattle.std.proofs.Common.{List, length, subst}
use Rattle.open_framing.specs.Frames.{Item}
use Rattle.tagvalue_codec.specs.declared.data_tags.Pair.{Pair}
use Rattle.replies.specs.Outside.{Sinks, sinks_of}
use Rattle.command_steps.specs.Replies.{Replied}
use Rattle.fixcheck_command.specs.FixCheck.{IsFixCheckReply}
use Rattle.fixcheck_command.proofs.fixcheck.FixCheckerFrameCommand.answer.Goals as goal

pub returns-clause-replied : goal.returns-clause-replied
returns-clause-replied g c =
    let item : Item = record { encoding = c.args.encoding; body = c.args.body.now } in
    let old : Sinks = sinks_of (g.O.Sink.state c.args.output.now) (g.N.Sink.state c.args.notes.now) in
    let new : Sinks = sinks_of (g.O.Sink.state c.answer_text.new.output) (g.N.Sink.state c.answer_text.new.notes) in
    subst (λ (tags : List Pair). Replied (length c.args.body.now) (IsFixCheckReply tags c.args.kept.now item) old new c.answer_text.result) c.self.view_is c.answer_text.ensures.replied
