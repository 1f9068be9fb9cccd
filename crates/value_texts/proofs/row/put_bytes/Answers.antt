use Rattle.std.proofs.Common.{subst, sym}
use Rattle.message_walk.specs.Rows.{field_of}
use Rattle.message_walk.specs.States.{IsPut, PutResult}
use Rattle.value_texts.proofs.row.put_bytes.Goals as goal

pub returns-in-Some-clause-put : goal.returns-in-Some-clause-put
returns-in-Some-clause-put c = λ lists unpaired reads codes within asks.
    let r : PutResult = record { put = c.put_front.result; draft = c.put_front.new.out; halt = c.put_front.new.halt } in
    subst (λ t. IsPut lists c.args.out.now c.args.lead.now t r) (sym (c.in-Some.ensures.told (field_of c.args.block.now c.args.number) reads codes)) (c.put_front.ensures.put lists unpaired)

pub returns-in-None-clause-put : goal.returns-in-None-clause-put
returns-in-None-clause-put c = λ lists unpaired reads codes within asks. c.put_number_bytes.ensures.put lists unpaired reads within asks
