use Rattle.std.proofs.Common.{◌≡◌, sym, ap, ◌∙◌}
use Rattle.std.proofs.lemmas.Option.{same_Some}
use Rattle.message_plans.specs.declared.plan.TemplatePlan.{TemplatePlan}
use Rattle.message_plans.proofs.Kinded.{template_at}
use Rattle.message_plans.proofs.plan.Plan.msg_type.Goals as goal

pub returns : goal.returns
returns g c = λ m levels level are at.
    let own = template_at g.R.RuleRow.follows_rule m levels c.args.self.now.templates c.args.template level are.templates at in
    let same : own.0 ≡ c.at.result.now = same_Some own.0 c.at.result.now (sym own.2 ∙ c.at.ensures) in
    c.as_slice.ensures ∙ ap (λ (t : TemplatePlan _). t.msg_type) (sym same) ∙ own.3.kind
