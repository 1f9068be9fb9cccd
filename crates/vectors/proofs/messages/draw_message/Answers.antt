use Rattle.std.proofs.Common.{ℕ, ◌%◌, ap, sym, ◌∙◌}
use Rattle.vectors.specs.Messages.{block_drawn}
use Rattle.vectors.proofs.BlockParts.{generated_is}
use Rattle.vectors.proofs.messages.draw_message.Goals as goal

pub returns : goal.returns
returns c =
    generated_is c.args.schema.now c.args.seed c.args.index _ _ _ _ (ap (λ (n : ℕ). c.args.index % n) c.len.ensures) c.at.ensures
    (ap (block_drawn c.at.result.now) (sym c.words_of-words.ensures) ∙ c.in_ok-block.ensures)
