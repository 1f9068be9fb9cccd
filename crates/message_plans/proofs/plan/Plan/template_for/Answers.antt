use Rattle.std.proofs.Common.{sym, ap, ◌∙◌}
use Rattle.id_tables.specs.Places.{name_place}
use Rattle.message_plans.proofs.Kinded.{none_has}
use Rattle.message_plans.proofs.plan.Plan.template_for.Goals as goal

pub returns-in-None : goal.returns-in-None
returns-in-None g c = λ m levels are. none_has c.args.kind.now levels (sym (c.place.ensures.is ∙ ap (name_place c.args.kind.now) are.kinds) ∙ c.in-None.is)

pub returns-in-Some : goal.returns-in-Some
returns-in-Some g c = λ m levels are.
    c.template_at.ensures m c.args.kind.now levels are (sym (c.place.ensures.is ∙ ap (name_place c.args.kind.now) are.kinds) ∙ c.in-Some.is)
