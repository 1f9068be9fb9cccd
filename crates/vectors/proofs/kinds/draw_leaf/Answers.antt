use Rattle.vectors.specs.Values.{null_of, there_drawn}
use Rattle.vectors.proofs.Draws.{null_there, some_there, if_ok}
use Rattle.vectors.proofs.kinds.draw_leaf.Goals as goal

pub returns-then-draw_null : goal.returns-then-draw_null
returns-then-draw_null c =
    if_ok _ _ c.null_leaf.result (λ v h. null_there _ c.may_be_null.result c.draw_null.result (null_of c.args.leaf.now.shape c.args.leaf.now) (there_drawn c.args.leaf.now.shape c.args.leaf.now) c.args.words.now _ c.may_be_null.ensures c.draw_null.ensures v c.if-draw_null.true h) c.null_leaf.ensures

pub returns : goal.returns
returns c =
    if_ok _ _ c.draw_there.result (λ v h. some_there _ c.may_be_null.result c.draw_null.result (null_of c.args.leaf.now.shape c.args.leaf.now) (there_drawn c.args.leaf.now.shape c.args.leaf.now) c.args.words.now _ c.may_be_null.ensures c.draw_null.ensures v _ c.if-draw_null.false h) c.draw_there.ensures
