use Rattle.flyweight_view.proofs.FieldsAt.{table_within}
use Rattle.message_walk.proofs.Nth.{in_range}
use Rattle.value_texts.proofs.Rows.{asks_of, reads_of}
use Rattle.value_texts.proofs.row.put_in_table.Goals as goal

pub field-requires : goal.field-requires
field-requires c = table_within c.args.table.now c.args.block.now c.requires.table

pub returns-in-Some-clause-put : goal.returns-in-Some-clause-put
returns-in-Some-clause-put c = λ lists rule unpaired by near.
    let shows = c.in-Some.ensures c.args.block.now c.requires.table in
    c.put_bytes.ensures.put lists unpaired (reads_of c.args.row.now rule c.args.number c.args.block.now c.in-Some.bytes.now by near shows) by.codes
    (in_range c.args.number c.args.block.now.fields near.field near.there) (asks_of c.args.row.now.rule rule c.args.number c.args.block.now by.texts near)

pub returns-in-None-clause-put : goal.returns-in-None-clause-put
returns-in-None-clause-put c = λ lists rule unpaired by near.
    c.put_checked.ensures.put lists unpaired (in_range c.args.number c.args.block.now.fields near.field near.there) (asks_of c.args.row.now.rule rule c.args.number c.args.block.now by.texts near)
