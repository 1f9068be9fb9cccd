use Rattle.message_walk.specs.Rows.{field_of}
use Rattle.value_texts.specs.FieldViews.{members_seen}
use Rattle.value_texts.proofs.Rows.{floating_row}
use Rattle.value_texts.proofs.at.floating_at.Goals as goal

pub returns-clause-put : goal.returns-clause-put
returns-clause-put c = λ lists unpaired.
    floating_row lists c.args.out.now c.args.lead.now (record { put = c.put_floating.result; draft = c.put_floating.new.out; halt = c.put_floating.new.halt }) (field_of c.args.block.now c.args.number) c.args.mantissa.now c.args.exponent.now (members_seen c.members_at-members.result)
    c.members_at-members.ensures.members (c.put_floating.ensures.put lists unpaired)
