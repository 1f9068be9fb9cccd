use Rattle.std.proofs.Common.{ℕ, sym, ap, ◌∙◌}
use Rattle.vectors.specs.Drawing.{remainder}
use Rattle.vectors.proofs.Draws.{drawn}
use Rattle.vectors.proofs.words.draw.Goals as goal

pub returns-clause-drawn : goal.returns-clause-drawn
returns-clause-drawn c =
    drawn c.args.words.now _ _ c.args.n c.next_word-word.ensures
    ∙ ap (λ (r : ℕ). (r, c.next_word-word.new.self)) (sym (c.remainder.ensures.value ∙ ap (λ w. remainder w c.args.n) c.from.ensures))
