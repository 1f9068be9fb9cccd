use Rattle.std.proofs.Common.{arith}
use Rattle.schema_lines.proofs.Growing.{texts_more}
use Rattle.coverage_command.specs.Coverage.{after_dot}
use Rattle.coverage_command.proofs.lines.put_after_dots.Goals as goal

pub loop-name-preserved : goal.loop-name-preserved
loop-name-preserved c =
    texts_more after_dot c.args.names.now c.loop-name.name-index c.name-item.result c.args.out.now.items c.loop-name.out.items _ (omega arith) c.name-item.is c.loop-name.invariant
    (rw c.as_slice.ensures at c.in_ok-put_after_dot.ensures).grown
