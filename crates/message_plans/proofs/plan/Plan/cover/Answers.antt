use Rattle.std.proofs.Common.{◌≡◌, sym, ◌∙◌, subst}
use Rattle.std.proofs.lemmas.Option.{same_Some}
use Rattle.message_plans.specs.declared.plan.TemplatePlan.{TemplatePlan}
use Rattle.message_plans.specs.Plans.{IsCover}
use Rattle.message_plans.proofs.Kinded.{template_at}
use Rattle.message_plans.proofs.plan.Plan.cover.Goals as goal

pub returns : goal.returns
returns g c = λ m levels level are at.
    let follows = g.R.RuleRow.follows_rule in
    let own = template_at follows m levels c.args.self.now.templates c.args.template level are.templates at in
    let same : own.0 ≡ c.at.result.now = same_Some own.0 c.at.result.now (sym own.2 ∙ c.at.ensures) in
    subst (λ (t : TemplatePlan _). IsCover follows m level t.cover) same own.3.cover
