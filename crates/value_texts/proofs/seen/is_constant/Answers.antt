use Rattle.std.proofs.Common.{subst, ap}
use Rattle.bridge_rules.specs.Members.{is_const}
use Rattle.value_texts.specs.FieldViews.{IsSeenOf}
use Rattle.value_texts.proofs.seen.is_constant.Goals as goal

pub returns-in-None : goal.returns-in-None
returns-in-None c = λ v h. ap is_const (subst (λ o. IsSeenOf o v) c.in-None.is h)

pub returns-in-Some : goal.returns-in-Some
returns-in-Some c = λ v h.
    let shown = subst (λ o. IsSeenOf o v) c.in-Some.is h in
    c.is_constant_kind.ensures c.in-Some.field.order shown.0 v c.in-Some.field.bytes.now shown.1
