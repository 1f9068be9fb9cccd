use Rattle.vectors.proofs.Draws.{null_word, null_none}
use Rattle.vectors.proofs.kinds.draw_null.Goals as goal

pub returns-then-optional : goal.returns-then-optional
returns-then-optional c = null_word c.args.optional c.draw.result c.args.words.now _ c.if-optional.true c.draw.ensures.drawn

pub returns : goal.returns
returns c = null_none c.args.optional c.args.words.now c.if-optional.false
