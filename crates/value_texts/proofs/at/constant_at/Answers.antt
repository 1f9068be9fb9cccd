use Rattle.message_walk.specs.Rows.{field_of}
use Rattle.value_texts.proofs.at.constant_at.Goals as goal

pub returns-clause-put : goal.returns-clause-put
returns-clause-put c = λ lists unpaired. c.put_constant.ensures.put lists (field_of c.args.block.now c.args.number) unpaired c.field_at-field.ensures.seen
