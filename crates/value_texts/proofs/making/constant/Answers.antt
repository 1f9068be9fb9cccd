use Rattle.std.proofs.Common.{subst, ◌≡◌}
use Rattle.std.specs.Prelude.{IfSome}
use Rattle.value_texts.specs.Made.{const_shown}
use Rattle.value_texts.specs.Rows.{const_text}
use Rattle.value_texts.proofs.MadeRows.{made_constant}
use Rattle.value_texts.proofs.making.constant.Goals as goal

pub returns-in-Some-clause-made : goal.returns-in-Some-clause-made
returns-in-Some-clause-made c =
    made_constant c.args.rule c.in-Some.text (subst (λ o. IfSome o (λ t. const_text t ≡ const_shown c.args.rule)) c.in-Some.is c.in_ok-constant_text.ensures.shown)
