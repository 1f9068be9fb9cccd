use Rattle.std.proofs.Common.{refl, subst, sym}
use Rattle.message_walk.specs.States.{IsPut, PutResult}
use Rattle.message_walk.specs.declared.put.Put.TheVariants.{Nothing}
use Rattle.value_texts.proofs.row.put_field.Goals as goal

pub returns-in-Text-clause-put : goal.returns-in-Text-clause-put
returns-in-Text-clause-put c = λ lists unpaired asks.
    let r : PutResult = record { put = c.put_text.result; draft = c.put_text.new.out; halt = c.put_text.new.halt } in
    subst (λ t. IsPut lists c.args.out.now c.args.lead.now t r) (sym c.in-Text.ensures.told) (c.put_text.ensures.put lists unpaired)

pub returns-in-Nothing-clause-put : goal.returns-in-Nothing-clause-put
returns-in-Nothing-clause-put c = λ lists unpaired asks.
    let r : PutResult = record { put = Nothing; draft = c.args.out.now; halt = c.args.halt.now } in
    subst (λ t. IsPut lists c.args.out.now c.args.lead.now t r) (sym c.in-Nothing.ensures.told) (refl, refl)
