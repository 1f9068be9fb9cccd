use Rattle.std.proofs.Common.{◌∙◌, List, ℕ, Result, arith, length, refl, sym, ap, subst}
use Rattle.sbe_base.specs.declared.status.Status.{Status}
use Rattle.open_framing.specs.Frames.{Item}
use Rattle.refused_items.specs.Refused.{refused_line, of_encoding}
use Rattle.sbe_base.specs.Objects.{Object}
use Rattle.replies.specs.Outside.{Sinks, sinks_of}
use Rattle.replies.specs.declared.verdict.Verdict.{Verdict}
use Rattle.command_steps.specs.Replies.{Replied}
use Rattle.fixcheck_command.proofs.Replied.{note_replied}
use Rattle.build_command.specs.Build.{body_limit}
use Rattle.tosbe_command.specs.Bodies.{IsTextWithBody}
use Rattle.tosbe_command.specs.Bridges.{BackBridge}
use Rattle.tosbe_command.proofs.TextBodies.{text_replied}
use Rattle.tosbe_command.specs.ToSbe.{other_encoding, IsItemReply}
use Rattle.tosbe_command.proofs.answer.answer_frame.Goals as goal

pub returns-then-encoding-ne-TAG_VALUE-clause-replied : goal.returns-then-encoding-ne-TAG_VALUE-clause-replied
returns-then-encoding-ne-TAG_VALUE-clause-replied g c =
    let item : Item = record { encoding = c.args.encoding; body = c.args.body.now } in
    let IsReply = IsItemReply c.args.bridge.now c.args.item item in
    let output = g.O.Sink.state c.args.output.now in
    let old = g.N.Sink.state c.args.notes.now in
    let new = g.N.Sink.state c.note_encoding.new.sink in
    subst (λ (r : Result Verdict Status). Replied (length c.args.body.now) IsReply (sinks_of output old) (sinks_of output new) r) (sym c.refused.ensures)
    (note_replied (length c.args.body.now) IsReply (refused_line c.args.item (of_encoding c.args.encoding)) old new
    (other_encoding c.if-encoding-ne-TAG_VALUE.true refl) output c.note_encoding.result c.note_encoding.ensures)

pub answer_body-requires : goal.answer_body-requires
answer_body-requires g c = omega (arith, ap length c.bytes.ensures, c.if-has_drafted.ensures.within refl, c.requires.room)

pub returns-then-has_drafted-clause-replied : goal.returns-then-has_drafted-clause-replied
returns-then-has_drafted-clause-replied g c =
    let b : BackBridge = record { schema = c.bridge.inside.files.checked; repository = c.bridge.inside.files.repository; frame = c.bridge.inside.frame } in
    let text = c.args.body.now in
    let limit = c.args.space.now.buffer.limit in
    let size = c.requires.size ∙ ap (λ (on : BackBridge). body_limit on.frame) (sym c.bridge.view_is) in
    let notes : Object (List ℕ) = g.N.Sink.state c.args.notes.now in
    let old : Sinks = sinks_of (g.O.Sink.state c.args.output.now) notes in
    let new : Sinks = sinks_of (g.O.Sink.state c.answer_body.new.output) notes in
    let body = c.has_drafted.new.space.draft in
    let is = subst (λ (on : BackBridge). IsTextWithBody on text body) (sym c.bridge.view_is) (c.if-has_drafted.ensures.body refl) in
    let item : Item = record { encoding = c.args.encoding; body = text } in
    subst (λ (on : BackBridge). Replied (length text) (IsItemReply on c.args.item item) old new c.answer_body.result) c.bridge.view_is
    (text_replied b c.args.item limit item c.bridge.inside.ways.parts.layout body c.bytes.result.now old new c.answer_body.result c.bridge.invariant.laid_out size c.bridge.invariant.good.checked
    c.if-encoding-ne-TAG_VALUE.false is c.bytes.ensures (c.if-has_drafted.ensures.within refl) (c.answer_body.ensures notes))

pub returns-clause-replied : goal.returns-clause-replied
returns-clause-replied g c =
    let text = c.args.body.now in
    let old : Sinks = sinks_of (g.O.Sink.state c.args.output.now) (g.N.Sink.state c.args.notes.now) in
    let new : Sinks = sinks_of (g.O.Sink.state c.answer_read.new.output) (g.N.Sink.state c.answer_read.new.notes) in
    subst (λ (encoding : ℕ). Replied (length text) (IsItemReply c.args.bridge.now c.args.item (record { encoding = encoding; body = text })) old new c.answer_read.result)
    (sym c.if-encoding-ne-TAG_VALUE.false) c.answer_read.ensures.replied
