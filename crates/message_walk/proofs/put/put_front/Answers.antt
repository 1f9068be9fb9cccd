use Rattle.std.proofs.Common.{subst, take}
use Rattle.std.specs.Prelude.{Ok, Some}
use Rattle.message_walk.specs.States.{IsPut, PutResult}
use Rattle.message_walk.proofs.Fields.{field_taken}
use Rattle.message_walk.proofs.put.put_front.Goals as goal

pub returns-then-front_field-clause-put : goal.returns-then-front_field-clause-put
returns-then-front_field-clause-put g c = λ lists unpaired.
    let a = c.array-used in
    field_taken lists c.args.out.now c.front_field.new.self c.args.halt.now (take a.result.1 a.result.0.now) c.args.lead.now (take c.args.count c.args.bytes.now) a.ensures.bytes unpaired
    (c.front_field.ensures.done c.if-front_field.true) (c.front_field.ensures.fits c.if-front_field.true)

pub returns-clause-put : goal.returns-clause-put
returns-clause-put g c = λ lists unpaired.
    let r : PutResult = record { put = c.put_long.result; draft = c.put_long.new.out; halt = c.put_long.new.halt } in
    subst (λ d. IsPut lists d c.args.lead.now (Ok (Some (take c.args.count c.args.bytes.now))) r) (c.front_field.ensures.kept c.if-front_field.false) (c.put_long.ensures.put lists unpaired)
