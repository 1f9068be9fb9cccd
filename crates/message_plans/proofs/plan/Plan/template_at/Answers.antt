use Rattle.std.proofs.Common.{◌≡◌, sym, ap, ◌∙◌, arith}
use Rattle.std.proofs.lemmas.Option.{same_Some}
use Rattle.message_plans.specs.declared.plan.TemplatePlan.{TemplatePlan}
use Rattle.message_plans.proofs.Kinded.{at_within, template_is}
use Rattle.message_plans.proofs.plan.Plan.template_at.Goals as goal

pub returns-then-i-len : goal.returns-then-i-len
returns-then-i-len g c = λ m kind levels are h.
    let own = template_is g.R.RuleRow.follows_rule m kind c.args.i levels c.args.self.now.templates are.templates h in
    absurd (omega (arith, c.if-i-len.true, c.len.ensures, at_within c.args.self.now.templates c.args.i own.0 own.1))

pub returns-then-at : goal.returns-then-at
returns-then-at g c = λ m kind levels are h.
    let own = template_is g.R.RuleRow.follows_rule m kind c.args.i levels c.args.self.now.templates are.templates h in
    let same : own.0 ≡ c.at.result.now = same_Some own.0 c.at.result.now (sym own.1 ∙ c.at.ensures) in
    own.2 (ap (λ (t : TemplatePlan _). t.alone) same ∙ c.if-at.true)

pub returns : goal.returns
returns g c = λ m kind levels are h.
    let own = template_is g.R.RuleRow.follows_rule m kind c.args.i levels c.args.self.now.templates are.templates h in
    let same : own.0 ≡ c.at.result.now = same_Some own.0 c.at.result.now (sym own.1 ∙ c.at.ensures) in
    own.3 (ap (λ (t : TemplatePlan _). t.alone) same ∙ c.if-at.false)
