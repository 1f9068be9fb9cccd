use Rattle.std.proofs.Common.{subst, sym}
use Rattle.message_walk.specs.Rows.{field_of}
use Rattle.message_walk.specs.States.{IsPut}
use Rattle.value_texts.proofs.Rows.{asks_of}
use Rattle.value_texts.proofs.row.ValueTextPutValue.put.Goals as goal

pub returns-clause-put : goal.returns-clause-put
returns-clause-put c = λ lists rule unpaired by near.
    subst (λ t. IsPut lists c.args.out.now c.args.lead.now t (record { put = c.put_field.result; draft = c.put_field.new.out; halt = c.put_field.new.halt })) (sym (by.texts.text (field_of c.args.block.now c.args.number)))
    (c.put_field.ensures.put lists unpaired (asks_of c.args.self.now.rule rule c.args.number c.args.block.now by.texts near))
