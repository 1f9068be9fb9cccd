use Rattle.std.proofs.Common.{ap, ◌∙◌, arith, replicate, ◌++◌, ◌∷◌, [], ℕ}
use Rattle.std.proofs.lemmas.List.{replicate_more}
use Rattle.sbe_types.specs.declared.message.Elem.TheVariants.{Null}
use Rattle.vectors.proofs.numbers.null_elements.Goals as goal

pub loop-preserved : goal.loop-preserved
loop-preserved c = c.in_ok-push.ensures.ok ∙ ap (λ l. l ++ (Null ∷ [])) c.loop.invariant ∙ replicate_more c.loop.counter Null

pub returns : goal.returns
returns c = c.loop.invariant ∙ ap (λ (n : ℕ). replicate n Null) (omega (arith, c.loop-test.false, c.loop.auto.counter-end))
