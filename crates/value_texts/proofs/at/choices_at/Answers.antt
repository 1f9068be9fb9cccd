use Rattle.message_walk.specs.Rows.{field_of}
use Rattle.value_texts.proofs.Rows.{choices_row}
use Rattle.value_texts.proofs.at.choices_at.Goals as goal

pub returns-clause-put : goal.returns-clause-put
returns-clause-put c = λ lists unpaired asks.
    choices_row lists c.args.out.now c.args.lead.now (record { put = c.put_choices.result; draft = c.put_choices.new.out; halt = c.put_choices.new.halt }) c.args.rule.now (field_of c.args.block.now c.args.number) c.choices_of-n.result
    (c.choices_of-n.ensures.seen (field_of c.args.block.now c.args.number) c.field_at-field.ensures.seen) c.choices_of-n.ensures.small asks.words (c.put_choices.ensures.put lists unpaired)
