use Rattle.std.proofs.Common.{◌≡◌, inr, sym, ap, ◌∙◌, subst, arith}
use Rattle.bridge_plan.specs.Covers.{unmapped}
use Rattle.message_plans.specs.Plans.{IsCover}
use Rattle.sbe_translation.specs.Plans.{IsAny, IsTreeOf}
use Rattle.sbe_translation.proofs.translate.translate.Goals as goal

pub cover-requires : goal.cover-requires
cover-requires c = omega (arith, c.requires.known, c.requires.planned.1.plans.many)

pub at-requires : goal.at-requires
at-requires c = omega (arith, c.requires.known, c.requires.planned.1.trees.many)

pub returns-in-NoMessage : goal.returns-in-NoMessage
returns-in-NoMessage c = λ m fields kind plans text table only.
    let cover = subst (IsCover IsAny m only.level) c.in-NoMessage.is (c.cover.ensures m c.args.checked.now.messages only.level plans.plans only.there) in
    inr (record { template = c.args.template; only = only; cover = cover })

pub returns-in-Unmapped : goal.returns-in-Unmapped
returns-in-Unmapped c = λ m fields kind plans text table only.
    let cover = subst (IsCover IsAny m only.level) c.in-Unmapped.is (c.cover.ensures m c.args.checked.now.messages only.level plans.plans only.there) in
    record { only = only; cover = cover ∙ ap unmapped (sym c.as_slice.ensures) }

pub returns-in-None : goal.returns-in-None
returns-in-None c = λ m fields kind plans text table only.
    let mapped = subst (IsCover IsAny m only.level) c.in-Mapped.is (c.cover.ensures m c.args.checked.now.messages only.level plans.plans only.there) in
    let none = subst (IsTreeOf m only.level) c.in-None.is (plans.trees.each c.args.template only.level c.at.result.now only.there c.at.ensures) in
    absurd (none _ mapped.cover)

pub returns-in-Some : goal.returns-in-Some
returns-in-Some c = λ m fields kind plans text table only.
    let tree = subst (IsTreeOf m only.level) c.in-Some.is (plans.trees.each c.args.template only.level c.at.result.now only.there c.at.ensures) in
    c.message_of.ensures m fields kind only plans.tags tree text table
