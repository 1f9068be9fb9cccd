use Rattle.message_walk.specs.Rows.{field_of}
use Rattle.value_texts.proofs.Rows.{number_row}
use Rattle.value_texts.proofs.at.number_at.Goals as goal

pub returns-clause-put : goal.returns-clause-put
returns-clause-put c = λ lists unpaired asks.
    number_row lists c.args.out.now c.args.lead.now (record { put = c.put_number.result; draft = c.put_number.new.out; halt = c.put_number.new.halt }) c.args.rule.now c.field_at-field.result c.args.number c.args.block.now c.number_of-n.result
    (c.number_of-n.ensures (field_of c.args.block.now c.args.number) c.field_at-field.ensures.seen) c.field_at-field.ensures.kind c.field_at-field.ensures.ready c.field_at-field.ensures.seen asks (c.put_number.ensures.put lists unpaired)
