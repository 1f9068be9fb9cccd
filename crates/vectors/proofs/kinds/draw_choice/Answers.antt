use Rattle.vectors.proofs.KindParts.{choice_is}
use Rattle.vectors.proofs.kinds.draw_choice.Goals as goal

pub returns : goal.returns
returns c = choice_is c.args.leaf.now c.args.values.now c.args.words.now _ c.draw-place.result c.len.result _ c.len.ensures c.draw-place.ensures.drawn c.listed_value.ensures
