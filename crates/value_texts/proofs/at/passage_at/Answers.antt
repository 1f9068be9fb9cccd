use Rattle.std.proofs.Common.{subst, sym}
use Rattle.message_walk.specs.Rows.{field_of}
use Rattle.message_walk.specs.States.{IsPut}
use Rattle.fix_values.specs.Values.{text_shown}
use Rattle.bridge_rules.specs.Texts.{judged_text, text_if_any}
use Rattle.value_texts.proofs.at.passage_at.Goals as goal

pub returns-clause-put : goal.returns-clause-put
returns-clause-put c = λ lists unpaired.
    subst (λ t. IsPut lists c.args.out.now c.args.lead.now (text_if_any t (λ t. judged_text t (text_shown t))) (record { put = c.put_passage.result; draft = c.put_passage.new.out; halt = c.put_passage.new.halt }))
    (sym (c.text_of-text.ensures.text (field_of c.args.block.now c.args.number) c.field_at-field.ensures.seen)) (c.put_passage.ensures.put lists unpaired)
