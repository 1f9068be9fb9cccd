use Rattle.std.proofs.Common.{ap, subst, ◌∙◌}
use Rattle.fix_values.specs.Values.{text_shown}
use Rattle.bridge_rules.specs.Texts.{field_text, judged_text}
use Rattle.message_walk.specs.States.{IsPut}
use Rattle.value_texts.proofs.CodesJudged.{code_judged}
use Rattle.value_texts.proofs.spelling.put_code_text.Goals as goal

pub returns-clause-put : goal.returns-clause-put
returns-clause-put c = λ lists unpaired.
    subst (λ t. IsPut lists c.args.out.now c.args.lead.now (field_text t) (record { put = c.put_judged.result; draft = c.put_judged.new.out; halt = c.put_judged.new.halt }))
    (ap (λ t. judged_text t (text_shown t)) c.as_slice.ensures ∙ code_judged c.args.code.now c.requires.short) (c.put_judged.ensures.put lists unpaired)
