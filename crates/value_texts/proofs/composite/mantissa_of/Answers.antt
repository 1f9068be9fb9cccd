use Rattle.std.proofs.Common.{subst, ap}
use Rattle.bridge_rules.specs.Members.{mantissa_in}
use Rattle.value_texts.specs.FieldViews.{CanReadAny, IsSeenOf}
use Rattle.value_texts.proofs.composite.mantissa_of.Goals as goal

pub kind_mantissa-requires-clause-ready : goal.kind_mantissa-requires-clause-ready
kind_mantissa-requires-clause-ready c = (subst CanReadAny c.in-Some.is c.requires).order

pub kind_mantissa-requires-clause-wide : goal.kind_mantissa-requires-clause-wide
kind_mantissa-requires-clause-wide c = (subst CanReadAny c.in-Some.is c.requires).wide

pub returns-in-None : goal.returns-in-None
returns-in-None c = λ v h. ap mantissa_in (subst (λ o. IsSeenOf o v) c.in-None.is h)

pub returns-in-Some : goal.returns-in-Some
returns-in-Some c = λ v h. let shown = subst (λ o. IsSeenOf o v) c.in-Some.is h in c.kind_mantissa.ensures shown.0 v shown.1
