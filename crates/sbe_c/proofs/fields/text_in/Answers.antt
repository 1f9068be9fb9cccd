use Rattle.std.proofs.Common.{◌≡◌, Some, subst}
use Rattle.std.specs.Prelude.{slice_get}
use Rattle.sbe_types.specs.declared.schema.WireSchema.{WireSchema}
use Rattle.sbe_wire.specs.Faults.{FirstFault}
use Rattle.sbe_wire.specs.Lays.{Lays}
use Rattle.body_walk.specs.Refusals.{refused}
use Rattle.field_lookup.specs.Places.{message_text, spot_at}
use Rattle.sbe_c.specs.Fields.{GivesText}
use Rattle.sbe_c.specs.Outcomes.{outcome}
use Rattle.sbe_c.proofs.Given.{text_given}
use Rattle.sbe_c.proofs.fields.text_in.Goals as goal

pub returns-in-Ok : goal.returns-in-Ok
returns-in-Ok c =
    text_given (message_text (spot_at c.args.steps.now c.args.field)) c.give.result c.args.opened.now c.args.body.now (outcome c.args.text.now c.give.new.buffer c.give.new.report) c.in-Ok.view
    (subst (λ schema. Lays schema c.in-Ok.view.message c.args.body.now) c.layout.ensures c.in-Ok.ensures.lies)
    (subst (λ (schema : WireSchema). slice_get schema.messages c.in-Ok.view.message.template ≡ Some c.in-Ok.view.level) c.layout.ensures c.in-Ok.ensures.level)
    (subst (λ text. GivesText c.give.result text (outcome c.args.text.now c.give.new.buffer c.give.new.report)) c.message_text.ensures c.give.ensures)

pub returns-in-Err : goal.returns-in-Err
returns-in-Err c = record {
  fault = refused c.in-Err.refusal;
  first = subst (λ schema. FirstFault schema (refused c.in-Err.refusal) c.args.body.now) c.layout.ensures c.in-Err.ensures.fault;
  code_told = c.tell_fault.ensures.code;
  offset_told = c.tell_fault.ensures.offset;
}
