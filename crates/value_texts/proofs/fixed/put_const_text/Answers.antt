use Rattle.std.proofs.Common.{subst, sym}
use Rattle.message_walk.specs.States.{IsPut}
use Rattle.value_texts.specs.Rows.{const_text}
use Rattle.value_texts.proofs.fixed.put_const_text.Goals as goal

pub returns-in-Missing-clause-put : goal.returns-in-Missing-clause-put
returns-in-Missing-clause-put c = λ lists unpaired.
    subst (λ t. IsPut lists c.args.out.now c.args.lead.now (const_text t) (record { put = c.refuse.result; draft = c.args.out.now; halt = c.refuse.new.halt })) (sym c.in-Missing.is)
    (c.refuse.ensures lists c.args.out.now c.args.lead.now)
