use Rattle.std.proofs.Common.{◌∙◌, Result, length, refl, sym, ap, subst}
use Rattle.sbe_base.specs.declared.status.Status.{Status}
use Rattle.open_framing.specs.Frames.{Item}
use Rattle.tagvalue_codec.specs.Places.{Holds}
use Rattle.tagvalue_codec.specs.Texts.{IsFirstFault}
use Rattle.open_framing.specs.declared.head.TheConstants.{TAG_VALUE}
use Rattle.refused_items.specs.Refused.{refused_line}
use Rattle.replies.specs.Outside.{sinks_of}
use Rattle.replies.specs.declared.verdict.Verdict.{Verdict}
use Rattle.command_steps.specs.Replies.{Replied}
use Rattle.fixcheck_command.specs.FixCheck.{of_fault}
use Rattle.fixcheck_command.proofs.Replied.{note_replied}
use Rattle.fixcheck_command.proofs.Typed.{has_digits}
use Rattle.tosbe_command.specs.Bridges.{tags_in}
use Rattle.tosbe_command.specs.ToSbe.{a_fault, a_text, IsItemReply}
use Rattle.tosbe_command.proofs.answer.answer_read.Goals as goal

pub answer_translated-requires-clause-held : goal.answer_translated-requires-clause-held
answer_translated-requires-clause-held g c =
    let tags = c.bridge.invariant.tagged ∙ ap tags_in c.bridge.view_is in
    subst (λ ts. Holds ts c.args.body.now c.read_fix.new.table) tags c.in-Ok.ensures.ok

pub returns-in-Ok-clause-replied : goal.returns-in-Ok-clause-replied
returns-in-Ok-clause-replied g c =
    let tags = c.bridge.invariant.tagged ∙ ap tags_in c.bridge.view_is in
    let held = subst (λ ts. Holds ts c.args.body.now c.read_fix.new.table) tags c.in-Ok.ensures.ok in
    let own = c.answer_translated.ensures.replied held in
    (own.0, a_text refl held.fields held.is own.1, own.2, own.3)

pub note_fault-requires : goal.note_fault-requires
note_fault-requires g c = has_digits c.bridge.inside.ways.parts.planned.tags c.args.body.now c.in-Err.fault c.in-Err.ensures.err

pub returns-in-Err-clause-replied : goal.returns-in-Err-clause-replied
returns-in-Err-clause-replied g c =
    let item : Item = record { encoding = TAG_VALUE; body = c.args.body.now } in
    let IsReply = IsItemReply c.args.bridge.now c.args.item item in
    let output = g.O.Sink.state c.args.output.now in
    let old = g.N.Sink.state c.args.notes.now in
    let new = g.N.Sink.state c.note_fault.new.sink in
    let tags = c.bridge.invariant.tagged ∙ ap tags_in c.bridge.view_is in
    let first = subst (λ ts. IsFirstFault ts c.args.body.now c.in-Err.fault) tags c.in-Err.ensures.err in
    subst (λ (r : Result Verdict Status). Replied (length c.args.body.now) IsReply (sinks_of output old) (sinks_of output new) r) (sym c.refused.ensures)
    (note_replied (length c.args.body.now) IsReply (refused_line c.args.item (of_fault c.in-Err.fault)) old new
    (a_fault refl c.in-Err.fault first refl) output c.note_fault.result c.note_fault.ensures)
