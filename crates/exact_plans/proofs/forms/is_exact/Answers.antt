use Rattle.std.proofs.Common.{sym, ◌∙◌}
use Rattle.exact_plans.proofs.Exact.{of_one_form}
use Rattle.exact_plans.proofs.forms.is_exact.Goals as goal

pub returns-clause-exact : goal.returns-clause-exact
returns-clause-exact c = λ told m s.
    let is = of_one_form c.args.level.now (sym c.is_of_one_form.ensures ∙ told) in
    c.plans_of_one_form_are_exact.ensures m s c.args.level.now is.0 (is.1 s)
