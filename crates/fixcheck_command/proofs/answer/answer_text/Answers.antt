use Rattle.std.proofs.Common.{◌≡◌, ◌∙◌, length, refl, sym, ap₂, subst, Result}
use Rattle.sbe_base.specs.declared.status.Status.{Status}
use Rattle.open_framing.specs.Frames.{Item}
use Rattle.tagvalue_codec.specs.Places.{Holds}
use Rattle.refused_items.specs.Refused.{refused_line, of_encoding}
use Rattle.replies.specs.Outside.{sinks_of}
use Rattle.replies.specs.declared.verdict.Verdict.{Verdict}
use Rattle.command_steps.specs.Replies.{Replied}
use Rattle.fixcheck_command.specs.FixCheck.{type_of, text_line, of_fault, answered, IsTextReply, other_encoding, a_text, a_fault}
use Rattle.fixcheck_command.proofs.Replied.{text_replied, note_replied}
use Rattle.fixcheck_command.proofs.Typed.{holds_type, type_field, third, type_is, count_is}
use Rattle.fixcheck_command.proofs.answer.answer_text.Goals as goal

pub returns-then-encoding-ne-TAG_VALUE-clause-replied : goal.returns-then-encoding-ne-TAG_VALUE-clause-replied
returns-then-encoding-ne-TAG_VALUE-clause-replied g c =
    let item : Item = record { encoding = c.args.encoding; body = c.args.body.now } in
    let output = g.O.Sink.state c.args.output.now in
    let old = g.N.Sink.state c.args.notes.now in
    let new = g.N.Sink.state c.note_encoding.new.sink in
    subst (λ (r : Result Verdict Status). Replied (length c.args.body.now) (IsTextReply c.args.tags.now c.args.item item) (sinks_of output old) (sinks_of output new) r) (sym c.verdict_of.ensures.told)
    (note_replied (length c.args.body.now) (IsTextReply c.args.tags.now c.args.item item) (refused_line c.args.item (of_encoding c.args.encoding)) old new
    (other_encoding c.if-encoding-ne-TAG_VALUE.true refl) output c.note_encoding.result c.note_encoding.ensures)

pub type_in-kind-requires : goal.type_in-kind-requires
type_in-kind-requires g c = holds_type c.args.tags.now c.args.body.now c.read_fix.new.table c.in-Ok.ensures.ok

pub returns-in-Ok-clause-replied : goal.returns-in-Ok-clause-replied
returns-in-Ok-clause-replied g c =
    let item : Item = record { encoding = c.args.encoding; body = c.args.body.now } in
    let notes = g.N.Sink.state c.args.notes.now in
    let old = g.O.Sink.state c.args.output.now in
    let new = g.O.Sink.state c.write_text.new.sink in
    let held : Holds c.args.tags.now c.args.body.now c.read_fix.new.table = c.in-Ok.ensures.ok in
    let kind : c.type_in-kind.result.now ≡ type_of held.fields =
    c.type_in-kind.ensures (type_field c.args.tags.now c.args.body.now c.read_fix.new.table held) (third c.args.tags.now c.args.body.now c.read_fix.new.table held)
    ∙ type_is c.args.tags.now c.args.body.now c.read_fix.new.table held in
    let many : c.len-fields.result ≡ length held.fields = c.len-fields.ensures.same ∙ count_is c.args.tags.now c.args.body.now c.read_fix.new.table held in
    subst (λ (r : Result Verdict Status). Replied (length c.args.body.now) (IsTextReply c.args.tags.now c.args.item item) (sinks_of old notes) (sinks_of new notes) r) (sym c.verdict_of-in-Ok.ensures.told)
    (text_replied (length c.args.body.now) (IsTextReply c.args.tags.now c.args.item item) (text_line c.args.item c.type_in-kind.result.now c.len-fields.result) old new
    (a_text c.if-encoding-ne-TAG_VALUE.false held.fields held.is (ap₂ (λ k m. answered (text_line c.args.item k m)) kind many)) notes c.write_text.result c.write_text.ensures)

pub returns-in-Err-clause-replied : goal.returns-in-Err-clause-replied
returns-in-Err-clause-replied g c =
    let item : Item = record { encoding = c.args.encoding; body = c.args.body.now } in
    let output = g.O.Sink.state c.args.output.now in
    let old = g.N.Sink.state c.args.notes.now in
    let new = g.N.Sink.state c.note_fault.new.sink in
    subst (λ (r : Result Verdict Status). Replied (length c.args.body.now) (IsTextReply c.args.tags.now c.args.item item) (sinks_of output old) (sinks_of output new) r) (sym c.verdict_of-in-Err.ensures.told)
    (note_replied (length c.args.body.now) (IsTextReply c.args.tags.now c.args.item item) (refused_line c.args.item (of_fault c.in-Err.fault)) old new
    (a_fault c.if-encoding-ne-TAG_VALUE.false c.in-Err.fault c.in-Err.ensures.err refl) output c.note_fault.result c.note_fault.ensures)
