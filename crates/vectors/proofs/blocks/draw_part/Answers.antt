use Rattle.vectors.proofs.BlockParts.{part_is}
use Rattle.vectors.proofs.blocks.draw_part.Goals as goal

pub returns : goal.returns
returns c = part_is c.args.part.now c.args.words.now _ _ _ _ _ c.draw.ensures.drawn c.amount-count.ensures c.in_ok-draw_data.ensures
