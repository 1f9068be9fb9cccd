use Rattle.std.specs.Prelude.{slice_get}
use Rattle.sbe_types.specs.declared.message.Block.{out-Block}
use Rattle.tree_codec.proofs.FieldShown.{field_width, field_is}
use Rattle.tree_codec.proofs.Steps.{if_ok}
use Rattle.tree_codec.proofs.blocks.field_value.Goals as goal

pub value_of-requires-clause-wide : goal.value_of-requires-clause-wide
value_of-requires-clause-wide c = field_width c.in-Some.field _ c.in-Some.ensures.shows

pub returns-in-Some : goal.returns-in-Some
returns-in-Some c =
    if_ok c.value_of.result (λ v is. field_is c.in-Some.field (slice_get (out-Block c.args.block.now.block).fields c.args.i) v c.in-Some.ensures.shows is) c.value_of.ensures
