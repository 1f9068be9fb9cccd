use Rattle.std.proofs.Common.{refl}
use Rattle.sbe_types.specs.declared.message.Value.TheVariants as value
use Rattle.vectors.specs.Values.{choice_drawn}
use Rattle.vectors.proofs.Draws.{null_there, some_there}
use Rattle.vectors.proofs.kinds.draw_enum.Goals as goal

pub returns-then-draw_null : goal.returns-then-draw_null
returns-then-draw_null c =
    null_there _ c.is_optional.result c.draw_null.result value.Null (choice_drawn c.args.leaf.now c.args.values.now) c.args.words.now _ c.is_optional.ensures c.draw_null.ensures value.Null c.if-draw_null.true refl

pub returns : goal.returns
returns c =
    some_there _ c.is_optional.result c.draw_null.result value.Null (choice_drawn c.args.leaf.now c.args.values.now) c.args.words.now _ c.is_optional.ensures c.draw_null.ensures _ _ c.if-draw_null.false c.draw_choice.ensures
