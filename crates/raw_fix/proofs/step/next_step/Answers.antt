use Rattle.std.proofs.Common.{sym, subst}
use Rattle.raw_fix.specs.Steps.{Steps}
use Rattle.raw_fix.specs.Raw.{Texts}
use Rattle.raw_fix.specs.Fields.{fix_texts}
use Rattle.raw_fix.proofs.RawLemmas.{held_message, held_garbled, held_none, held_size}
use Rattle.raw_fix.proofs.StepLemmas.{steps_on, steps_in}
use Rattle.raw_fix.proofs.step.next_step.Goals as goal

pub returns-in-Some-clause-steps : goal.returns-in-Some-clause-steps
returns-in-Some-clause-steps c =
    let texts : Texts = fix_texts c.args.tags.now c.args.known.most in
    subst (λ b. Steps texts c.args.held.now c.args.known.at b c.run_on.result) (sym c.in-Some.is) (steps_on texts c.args.held.now c.args.known.at c.in-Some.run' c.run_on.result c.run_on.ensures.steps)

pub returns-in-Some-Says-clause-steps : goal.returns-in-Some-Says-clause-steps
returns-in-Some-Says-clause-steps c =
    let texts : Texts = fix_texts c.args.tags.now c.args.known.most in
    let told = rw c.in-Some-Says.field-0-is at c.in-Some-Says.ensures.verdict in
    (c.in-None.is, held_size texts c.args.held.now c.in-Some-Says.n told, held_message texts c.args.held.now c.in-Some-Says.n told)

pub returns-in-Some-Refuses-clause-steps : goal.returns-in-Some-Refuses-clause-steps
returns-in-Some-Refuses-clause-steps c =
    let texts : Texts = fix_texts c.args.tags.now c.args.known.most in
    let told = rw c.in-Some-Refuses.field-0-is at c.in-Some-Refuses.ensures.verdict in
    let code = c.in-Some-Refuses.code in
    subst (λ b. Steps texts c.args.held.now c.args.known.at b c.run_on-in-Some-Refuses.result) (sym c.in-None.is)
    (steps_in texts c.args.held.now c.args.known.at code c.run_on-in-Some-Refuses.result c.requires.some (held_garbled texts c.args.held.now code told) c.run_on-in-Some-Refuses.ensures.steps)

pub returns-in-None-judge-clause-steps : goal.returns-in-None-judge-clause-steps
returns-in-None-judge-clause-steps c =
    let texts : Texts = fix_texts c.args.tags.now c.args.known.most in
    (c.in-None.is, held_none texts c.args.held.now c.in-None-judge.ensures.verdict)
