use Rattle.std.proofs.Common.{subst}
use Rattle.message_plans.specs.Plans.{IsTemplateOf}
use Rattle.text_judge.proofs.judge.TextJudge.template_for.Goals as goal

pub returns-in-One : goal.returns-in-One
returns-in-One c = λ m levels tags is. subst (IsTemplateOf c.args.kind.now levels) c.in-One.is (c.template_for.ensures m levels is.plans)
