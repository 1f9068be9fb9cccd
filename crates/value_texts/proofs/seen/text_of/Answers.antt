use Rattle.std.proofs.Common.{subst, ap}
use Rattle.bridge_rules.specs.Members.{text_in}
use Rattle.value_texts.specs.FieldViews.{IsSeenOf}
use Rattle.value_texts.proofs.seen.text_of.Goals as goal

pub returns-in-None-clause-text : goal.returns-in-None-clause-text
returns-in-None-clause-text c = λ v h. ap text_in (subst (λ o. IsSeenOf o v) c.in-None.is h)

pub returns-in-Some-clause-text : goal.returns-in-Some-clause-text
returns-in-Some-clause-text c = λ v h. let shown = subst (λ o. IsSeenOf o v) c.in-Some.is h in c.kind_text.ensures.text c.in-Some.field.order shown.0 v shown.1
