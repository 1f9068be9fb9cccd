use Rattle.message_walk.specs.Rows.{field_of}
use Rattle.value_texts.specs.FieldViews.{members_seen}
use Rattle.value_texts.proofs.Rows.{moment_row}
use Rattle.value_texts.proofs.at.moment_at.Goals as goal

pub returns-clause-put : goal.returns-clause-put
returns-clause-put c = λ lists unpaired.
    moment_row lists c.args.out.now c.args.lead.now (record { put = c.put_moment.result; draft = c.put_moment.new.out; halt = c.put_moment.new.halt }) (field_of c.args.block.now c.args.number) c.args.epoch c.args.unit.now (members_seen c.members_at-members.result)
    c.members_at-members.ensures.members (c.put_moment.ensures.put lists unpaired)
