use Rattle.tree_codec.proofs.fills.fill_block.Given as goal
use Rattle.typed_writer.specs.States.{SetsFields}
use Rattle.tree_codec.specs.Puts.{task_of}
use Rattle.tree_codec.proofs.FillSteps.{FilledTo}

abbrev pub invariant-loop-i : goal.invariant-loop-i
invariant-loop-i l =
    record {
      state : SetsFields l.layout l.buf;
      filled : FilledTo (task_of l.layout l.level l.block) l.i l.fn.buf l.buf;
    }
