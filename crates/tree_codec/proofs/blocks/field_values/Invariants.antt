use Rattle.std.proofs.Common.{◌≡◌, take}
use Rattle.sbe_types.specs.declared.message.Block.{out-Block}
use Rattle.tree_codec.proofs.blocks.field_values.Given as goal

abbrev pub invariant-loop-i : goal.invariant-loop-i
invariant-loop-i l = l.values ≡ take l.i (out-Block l.block.block).fields
