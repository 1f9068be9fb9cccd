use Rattle.vectors.proofs.KindParts.{text_is}
use Rattle.vectors.proofs.texts.draw_text.Goals as goal

pub returns : goal.returns
returns c = text_is c.args.leaf.now c.args.words.now _ _ _ _ _ _ c.draw_length-length.ensures c.byte_count.ensures c.in_ok-bytes.ensures c.text_value.ensures
