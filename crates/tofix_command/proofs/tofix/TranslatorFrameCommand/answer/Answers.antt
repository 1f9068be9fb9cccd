use Rattle.std.proofs.Common.{length, refl, subst, sym, arith}
use Rattle.open_framing.specs.Frames.{Item}
use Rattle.map_types.specs.Trees.{members_of}
use Rattle.bridge_mapping.specs.Mapped.{mapping_of}
use Rattle.fix_messages.specs.Heads.{IsHeadReady}
use Rattle.replies.specs.Outside.{Sinks, sinks_of}
use Rattle.command_steps.specs.Replies.{Replied}
use Rattle.tofix_replies.specs.ToFix.{given_head, Bridge, IsToFixReply}
use Rattle.tofix_command.specs.Bridges.{bridge_of, Translating}
use Rattle.tofix_command.specs.Planned.{schemas_of}
use Rattle.tofix_command.proofs.Heads.{ready_after}
use Rattle.tofix_command.proofs.tofix.TranslatorFrameCommand.answer.Goals as goal

pub answer_frame-requires-clause-ready : goal.answer_frame-requires-clause-ready
answer_frame-requires-clause-ready g c =
    record { mapping = mapping_of (members_of c.self.inside.repository); kinds = c.self.invariant.kinds; planned = c.self.invariant.planned }

pub answer_frame-requires-clause-head : goal.answer_frame-requires-clause-head
answer_frame-requires-clause-head g c =
    subst IsHeadReady (sym c.after.ensures) (ready_after c.args.kept.now.translated (given_head c.self.inside.desk.head) c.self.invariant.ready)

pub answer_frame-requires-clause-room : goal.answer_frame-requires-clause-room
answer_frame-requires-clause-room g c = omega (arith, c.self.invariant.limit_is, c.self.invariant.most)

pub returns-clause-replied : goal.returns-clause-replied
returns-clause-replied g c =
    let item : Item = record { encoding = c.args.encoding; body = c.args.body.now } in
    let old : Sinks = sinks_of (g.O.Sink.state c.args.output.now) (g.N.Sink.state c.args.notes.now) in
    let new : Sinks = sinks_of (g.O.Sink.state c.answer_frame.new.output) (g.N.Sink.state c.answer_frame.new.notes) in
    let within = c.self.inside in
    let shown : Translating = record { schemas = schemas_of within.schemas; repository = within.repository; head = given_head within.desk.head; frame = within.desk.frame } in
    subst (λ (t : Translating). Replied (length c.args.body.now) (IsToFixReply (bridge_of t) c.args.kept.now item) old new c.answer_frame.result) c.self.view_is
    (c.answer_frame.ensures.replied (bridge_of shown) (record { schemas = refl; planned = c.self.invariant.planned }) (record { head_is = c.after.ensures; limit_is = c.self.invariant.limit_is }))
