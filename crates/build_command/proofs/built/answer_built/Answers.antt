use Rattle.std.proofs.Common.{◌≡◌, List, ℕ, Ok, Err, sym, inr, refl, subst, ◌∙◌}
use Rattle.std.specs.Prelude.{slice_get}
use Rattle.std.specs.Option.{IsSome}
use Rattle.sbe_types.specs.declared.schema.WireSchema.{WireSchema}
use Rattle.line_reading.specs.Lines.{tree_of}
use Rattle.line_values.specs.Refusals.{refusal}
use Rattle.sbe_base.specs.Objects.{Object}
use Rattle.build_command.proofs.Answering.{note_whole, note_part, empty_answered, unread_is, message_answered, printed_answered}
use Rattle.line_facts.proofs.Templates.{template_there}
use Rattle.printed_lines.specs.Bodies.{IsBodyOf}
use Rattle.build_command.proofs.built.answer_built.Goals as goal

pub answer_message-requires-clause-known : goal.answer_message-requires-clause-known
answer_message-requires-clause-known g c =
    subst (λ (s : WireSchema). IsSome (slice_get s.messages c.in-Ok.message.template)) (sym (c.layout-layout.ensures ∙ c.lines.ensures.lines ∙ c.target.invariant)) (template_there c.target.inside.checked c.args.line.now c.in-Ok.message c.in-Ok.ensures)

pub returns-then-is_empty-clause-answers : goal.returns-then-is_empty-clause-answers
returns-then-is_empty-clause-answers g c = λ limit at. empty_answered c.args.target.now limit c.args.item c.args.line.now _ (sym c.is_empty.ensures ∙ c.if-is_empty.true)

pub returns-then-body_of_line-clause-answers : goal.returns-then-body_of_line-clause-answers
returns-then-body_of_line-clause-answers g c = λ limit at.
    let notes : Object (List ℕ) = g.N.Sink.state c.args.notes.now in
    printed_answered c.args.target.now limit c.args.item c.args.line.now (sym c.is_empty.ensures ∙ c.if-is_empty.false) c.layout-layout.result.now c.args.space.now.buffer.limit c.body_of_line.new.draft c.bytes.result.now _ _ _
    (c.layout-layout.ensures ∙ c.lines.ensures.lines ∙ c.target.invariant ∙ c.target.view_is) at
    (subst (λ s. IsBodyOf s c.args.line.now c.args.space.now.buffer.limit c.body_of_line.new.draft) (sym (c.layout-layout.ensures ∙ c.lines.ensures.lines))
    (subst (λ n. IsBodyOf c.target.inside.printed c.args.line.now n c.body_of_line.new.draft) c.limit.ensures.same (c.if-body_of_line.ensures.body refl))) c.bytes.ensures (c.answer_body.ensures notes)

pub returns-in-Ok-clause-answers : goal.returns-in-Ok-clause-answers
returns-in-Ok-clause-answers g c = λ limit at.
    message_answered c.args.target.now limit c.args.item c.args.line.now (sym c.is_empty.ensures ∙ c.if-is_empty.false) c.layout-layout.result.now c.args.space.now.buffer.limit c.in-Ok.message _ _ _
    (c.layout-layout.ensures ∙ c.lines.ensures.lines ∙ c.target.invariant ∙ c.target.view_is) at
    (subst (λ (s : WireSchema). tree_of s c.args.line.now ≡ Ok c.in-Ok.message) c.target.view_is c.in-Ok.ensures)
    c.answer_message.ensures.answers

pub returns-in-Ok-put_unread-clause-answers : goal.returns-in-Ok-put_unread-clause-answers
returns-in-Ok-put_unread-clause-answers g c = λ limit at.
    let output : Object (List ℕ) = g.O.Sink.state c.args.output.now in
    let read = subst (λ (s : WireSchema). tree_of s c.args.line.now ≡ Err (refusal c.in-Err-Refused.code c.in-Err-Refused.place)) c.target.view_is (rw c.in-Err-Refused.field-0-is at c.in-Err-Refused.ensures) in
    let shown : c.as_slice.result.now ≡ c.in-Err-Refused.place = rw c.in-Err-Refused.field-0-is at c.as_slice.ensures in
    note_whole _ _ _ _ (unread_is c.args.target.now limit c.args.item c.args.line.now (sym c.is_empty.ensures ∙ c.if-is_empty.false) c.in-Err-Refused.code _ c.in-Err-Refused.place c.as_slice.result.now read c.in-Err-Refused.code-is shown) output
    c.in-Ok-put_unread.ensures

pub returns-in-Err-Refused-clause-answers : goal.returns-in-Err-Refused-clause-answers
returns-in-Err-Refused-clause-answers g c = λ limit at.
    let output : Object (List ℕ) = g.O.Sink.state c.args.output.now in
    let read = subst (λ (s : WireSchema). tree_of s c.args.line.now ≡ Err (refusal c.in-Err-Refused.code c.in-Err-Refused.place)) c.target.view_is (rw c.in-Err-Refused.field-0-is at c.in-Err-Refused.ensures) in
    let shown : c.as_slice.result.now ≡ c.in-Err-Refused.place = rw c.in-Err-Refused.field-0-is at c.as_slice.ensures in
    note_part _ _ _ _ (unread_is c.args.target.now limit c.args.item c.args.line.now (sym c.is_empty.ensures ∙ c.if-is_empty.false) c.in-Err-Refused.code _ c.in-Err-Refused.place c.as_slice.result.now read c.in-Err-Refused.code-is shown) output
    c.in-Err.ensures

pub returns-clause-answers : goal.returns-clause-answers
returns-clause-answers g c = λ limit at. inr (refl, refl)
