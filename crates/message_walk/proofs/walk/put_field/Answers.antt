use Rattle.message_walk.proofs.Slots.{field_slot}
use Rattle.message_walk.proofs.walk.put_field.Goals as goal

pub returns-clause-put : goal.returns-clause-put
returns-clause-put g c = λ lists s at there.
    field_slot g.R.PutValue.spells lists c.args.out.now (record { put = c.put_at.result; draft = c.put_at.new.out; halt = c.put_at.new.halt }) c.args.row.now c.args.rule.now s c.args.block.now
    c.requires.part at there (c.put_at.ensures.put lists)
