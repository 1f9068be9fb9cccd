use Rattle.std.proofs.Common.{subst, sym}
use Rattle.message_walk.specs.Rows.{field_of}
use Rattle.message_walk.specs.States.{IsPut}
use Rattle.date_answers.specs.Answers.{day_shown}
use Rattle.bridge_rules.specs.Texts.{text_if_any}
use Rattle.value_texts.proofs.at.day_at.Goals as goal

pub returns-clause-put : goal.returns-clause-put
returns-clause-put c = λ lists unpaired.
    subst (λ n. IsPut lists c.args.out.now c.args.lead.now (text_if_any n day_shown) (record { put = c.put_day.result; draft = c.put_day.new.out; halt = c.put_day.new.halt }))
    (sym (c.number_of-n.ensures (field_of c.args.block.now c.args.number) c.field_at-field.ensures.seen)) (c.put_day.ensures.put lists unpaired)
