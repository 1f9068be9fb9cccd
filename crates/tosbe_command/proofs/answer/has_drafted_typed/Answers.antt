use Rattle.std.proofs.Common.{List, ℕ, subst}
use Rattle.text_judge.specs.Judges.{HasBodyOf}
use Rattle.tosbe_command.proofs.answer.has_drafted_typed.Goals as goal

pub returns-clause-body : goal.returns-clause-body
returns-clause-body c = λ yes m tags only is.
    subst (λ (body : List ℕ). HasBodyOf m c.args.parts.now.layout c.args.typed.now.template only.level (record { tags = tags; text = c.args.typed.now.text.now; body = body })) c.bytes-body.ensures
    (c.is_message_of.ensures yes m tags only is)
