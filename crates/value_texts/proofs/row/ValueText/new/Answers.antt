use Rattle.std.proofs.Common.{refl, subst}
use Rattle.std.specs.Prelude.{IfSome}
use Rattle.value_texts.specs.declared.row.ValueText.{ValueText}
use Rattle.value_texts.specs.Made.{IsMadeFor}
use Rattle.value_texts.proofs.row.ValueText.new.Goals as goal

pub returns-in_ok-codes-in-Some-clause-spells : goal.returns-in_ok-codes-in-Some-clause-spells
returns-in_ok-codes-in-Some-clause-spells c = λ names.
    let own : ValueText = record { rule = c.in-Some.rule; face = c.face_of-face.result; codes = c.in_ok-codes-in-Some.codes } in
    (subst (λ o. IfSome o (IsMadeFor c.args.rule)) c.in-Some.is c.in_ok-rule.ensures.made) names own refl c.face_of-face.ensures c.in_ok-codes-in-Some.ensures
