use Rattle.std.proofs.Common.{sym, ap, ◌∙◌}
use Rattle.bridge_rules.proofs.OptionLemmas.{some_is}
use Rattle.bridge_terms.specs.Plans.{is_in}
use Rattle.field_judge.proofs.Finding.{is_there, not_there}
use Rattle.field_judge.proofs.runs.is_owned.Goals as goal

pub returns-in-None : goal.returns-in-None
returns-in-None c = λ x at.
    sym (ap (λ f. is_in f.tag c.args.owned.now) (some_is (sym at ∙ c.field_at.ensures)) ∙ not_there c.field_at.result.tag c.args.owned.now 0 (sym c.place.ensures.is ∙ c.in-None.is))

pub returns-in-Some : goal.returns-in-Some
returns-in-Some c = λ x at.
    sym (ap (λ f. is_in f.tag c.args.owned.now) (some_is (sym at ∙ c.field_at.ensures)) ∙ is_there c.field_at.result.tag c.args.owned.now 0 c.in-Some.field-0 (sym c.place.ensures.is ∙ c.in-Some.is))
