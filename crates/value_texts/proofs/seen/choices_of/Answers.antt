use Rattle.std.proofs.Common.{subst, ap}
use Rattle.value_texts.specs.FieldViews.{choices_in, CanReadAny, IsSeenOf}
use Rattle.value_texts.proofs.seen.choices_of.Goals as goal

pub kind_choices-requires-clause-ready : goal.kind_choices-requires-clause-ready
kind_choices-requires-clause-ready c = (subst CanReadAny c.in-Some.is c.requires).order

pub kind_choices-requires-clause-wide : goal.kind_choices-requires-clause-wide
kind_choices-requires-clause-wide c = (subst CanReadAny c.in-Some.is c.requires).wide

pub returns-in-None-clause-seen : goal.returns-in-None-clause-seen
returns-in-None-clause-seen c = λ v h. ap choices_in (subst (λ o. IsSeenOf o v) c.in-None.is h)

pub returns-in-Some-clause-seen : goal.returns-in-Some-clause-seen
returns-in-Some-clause-seen c = λ v h. let shown = subst (λ o. IsSeenOf o v) c.in-Some.is h in c.kind_choices.ensures.seen shown.0 v shown.1
