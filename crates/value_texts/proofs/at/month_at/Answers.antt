use Rattle.message_walk.specs.Rows.{field_of}
use Rattle.value_texts.specs.FieldViews.{members_seen}
use Rattle.value_texts.proofs.Rows.{month_row}
use Rattle.value_texts.proofs.at.month_at.Goals as goal

pub returns-clause-put : goal.returns-clause-put
returns-clause-put c = λ lists unpaired.
    month_row lists c.args.out.now c.args.lead.now (record { put = c.put_month.result; draft = c.put_month.new.out; halt = c.put_month.new.halt }) (field_of c.args.block.now c.args.number) (members_seen c.members_at-members.result)
    c.members_at-members.ensures.members (c.put_month.ensures.put lists unpaired)
