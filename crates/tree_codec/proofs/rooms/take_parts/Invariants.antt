use Rattle.std.proofs.Common.{◌≡◌, ◌≤◌, ◌+◌, drop, length}
use Rattle.sbe_types.specs.declared.message.Block.{out-Block}
use Rattle.sbe_types.specs.declared.schema.Level.{out-Level}
use Rattle.sbe_wire.specs.Misfit.{parts_taken}
use Rattle.tree_codec.proofs.rooms.take_parts.Given as goal

abbrev pub invariant-loop-i : goal.invariant-loop-i
invariant-loop-i l =
    record {
      near : l.at ≤ l.limit;
      told : parts_taken l.limit (l.first + l.i) l.at (drop l.i (out-Level l.level).parts) (drop l.i (out-Block l.block).parts)
          ≡ parts_taken l.limit (length (out-Level l.level).fields + length (out-Level l.level).groups) l.fn.before (out-Level l.level).parts (out-Block l.block).parts;
    }
