use Rattle.std.proofs.Common.{subst, sym}
use Rattle.std.specs.Prelude.{IfSome}
use Rattle.flyweight_view.specs.ByTable.{IsTableBlock}
use Rattle.message_walk.specs.Rows.{field_of}
use Rattle.message_walk.specs.States.{IsPut}
use Rattle.message_walk.proofs.Nth.{in_range}
use Rattle.value_texts.proofs.Rows.{asks_of}
use Rattle.value_texts.proofs.row.ValueTextPutValue.put_at.Goals as goal

pub put_in_table-requires-clause-table : goal.put_in_table-requires-clause-table
put_in_table-requires-clause-table c = subst (λ o. IfSome o (λ t. IsTableBlock t c.args.block.now)) c.in-Some.is c.requires.table

pub returns-in-Some-clause-put : goal.returns-in-Some-clause-put
returns-in-Some-clause-put c = λ lists rule unpaired by near.
    subst (λ t. IsPut lists c.args.out.now c.args.lead.now t (record { put = c.put_in_table.result; draft = c.put_in_table.new.out; halt = c.put_in_table.new.halt })) (sym (by.texts.text (field_of c.args.block.now c.args.number)))
    (c.put_in_table.ensures.put lists rule unpaired by near)

pub returns-in-None-clause-put : goal.returns-in-None-clause-put
returns-in-None-clause-put c = λ lists rule unpaired by near.
    subst (λ t. IsPut lists c.args.out.now c.args.lead.now t (record { put = c.put_checked.result; draft = c.put_checked.new.out; halt = c.put_checked.new.halt })) (sym (by.texts.text (field_of c.args.block.now c.args.number)))
    (c.put_checked.ensures.put lists unpaired (in_range c.args.number c.args.block.now.fields near.field near.there) (asks_of c.args.self.now.rule rule c.args.number c.args.block.now by.texts near))
