use Rattle.std.proofs.Common.{subst, take}
use Rattle.std.specs.Prelude.{Ok, Some}
use Rattle.message_walk.specs.States.{IsPut, PutResult}
use Rattle.message_walk.proofs.Fields.{field_taken}
use Rattle.message_walk.proofs.put.put_text.Goals as goal

pub returns-then-led_field-clause-put : goal.returns-then-led_field-clause-put
returns-then-led_field-clause-put c = λ lists unpaired.
    let a = c.array-used in
    field_taken lists c.args.out.now c.led_field.new.self c.args.halt.now (take a.result.1 a.result.0.now) c.args.lead.now c.args.text.now a.ensures.bytes unpaired
    (c.led_field.ensures.done c.if-led_field.true) (c.led_field.ensures.fits c.if-led_field.true)

pub returns-clause-put : goal.returns-clause-put
returns-clause-put c = λ lists unpaired.
    let r : PutResult = record { put = c.put_long-2.result; draft = c.put_long-2.new.out; halt = c.put_long-2.new.halt } in
    subst (λ d. IsPut lists d c.args.lead.now (Ok (Some c.args.text.now)) r) (c.led_field.ensures.kept c.if-led_field.false) (c.put_long-2.ensures.put lists unpaired)
