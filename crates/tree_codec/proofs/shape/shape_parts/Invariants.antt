use Rattle.std.proofs.Common.{◌≡◌, ◌+◌, drop, length}
use Rattle.sbe_types.specs.declared.message.Block.{out-Block}
use Rattle.sbe_types.specs.declared.schema.Level.{out-Level}
use Rattle.sbe_wire.specs.Misfit.{parts_shape}
use Rattle.tree_codec.proofs.shape.shape_parts.Given as goal

abbrev pub invariant-loop-i : goal.invariant-loop-i
invariant-loop-i l =
    parts_shape (l.first + l.i) (drop l.i (out-Block l.block).parts) ≡ parts_shape (length (out-Level l.level).fields + length (out-Block l.block).groups) (out-Block l.block).parts
