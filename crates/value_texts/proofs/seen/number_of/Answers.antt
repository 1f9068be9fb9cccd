use Rattle.std.proofs.Common.{subst, ap}
use Rattle.bridge_rules.specs.Members.{number_in}
use Rattle.value_texts.specs.FieldViews.{CanReadAny, IsSeenOf}
use Rattle.value_texts.proofs.seen.number_of.Goals as goal

pub kind_number-requires-clause-ready : goal.kind_number-requires-clause-ready
kind_number-requires-clause-ready c = (subst CanReadAny c.in-Some.is c.requires).order

pub kind_number-requires-clause-wide : goal.kind_number-requires-clause-wide
kind_number-requires-clause-wide c = (subst CanReadAny c.in-Some.is c.requires).wide

pub returns-in-None : goal.returns-in-None
returns-in-None c = λ v h. ap number_in (subst (λ o. IsSeenOf o v) c.in-None.is h)

pub returns-in-Some : goal.returns-in-Some
returns-in-Some c = λ v h. let shown = subst (λ o. IsSeenOf o v) c.in-Some.is h in c.kind_number.ensures shown.0 v shown.1
