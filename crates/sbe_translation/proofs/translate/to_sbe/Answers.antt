use Rattle.std.proofs.Common.{◌≡◌, [], inl, subst}
use Rattle.bridge_plan.specs.Covers.{templates_of}
use Rattle.message_plans.specs.Plans.{AreSeveral, IsOnly, IsTemplateOf}
use Rattle.message_plans.proofs.Kinded.{at_within}
use Rattle.sbe_translation.proofs.translate.to_sbe.Goals as goal

pub returns-in-Unknown : goal.returns-in-Unknown
returns-in-Unknown c = λ m fields kind plans text table is.
    let levels = c.args.checked.now.messages in
    let told = subst (IsTemplateOf c.type_in.result.now levels) c.in-Unknown.is (c.template_for.ensures m levels plans.plans) in
    inl (subst (λ k. templates_of k levels ≡ []) (c.type_in.ensures fields kind text table is) told)

pub returns-in-Several : goal.returns-in-Several
returns-in-Several c = λ m fields kind plans text table is.
    let levels = c.args.checked.now.messages in
    let told = subst (IsTemplateOf c.type_in.result.now levels) c.in-Several.is (c.template_for.ensures m levels plans.plans) in
    subst (λ k. AreSeveral k levels) (c.type_in.ensures fields kind text table is) told

pub translate-requires-clause-known : goal.translate-requires-clause-known
translate-requires-clause-known c =
    let levels = c.args.checked.now.messages in
    let told = subst (IsTemplateOf c.type_in.result.now levels) c.in-One.is (c.template_for.ensures c.requires.planned.0 levels c.requires.planned.1.plans) in
    at_within levels c.in-One.template told.level told.there

pub returns-in-One : goal.returns-in-One
returns-in-One c = λ m fields kind plans text table is.
    let levels = c.args.checked.now.messages in
    let told = subst (IsTemplateOf c.type_in.result.now levels) c.in-One.is (c.template_for.ensures m levels plans.plans) in
    c.translate.ensures m fields kind plans text table (subst (λ k. IsOnly k levels c.in-One.template) (c.type_in.ensures fields kind text table is) told)
