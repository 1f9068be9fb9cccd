use Rattle.std.proofs.Common.{length, ap, arith}
use Rattle.std.specs.Prelude.{flat_map}
use Rattle.schema_facts.specs.Levels.{nodes_of}
use Rattle.layout_compile.proofs.Grows.{many_more, long_level}
use Rattle.layout_compile.proofs.tables.+count.Goals as goal

pub count_below-loop-group-preserved : goal.count_below-loop-group-preserved
count_below-loop-group-preserved t c = λ k.
    let more = many_more k c.args.groups.now c.loop-group.group-index c.loop-group.many c.group-item.result (omega arith) c.group-item.is (c.loop-group.invariant k) in
    omega (arith, more, c.in-Some.ensures k)

pub count_level-returns : goal.count_level-returns
count_level-returns t c = λ k.
    omega (arith, long_level k c.args.level.now, c.in-Some.ensures k, ap (λ gs. length (flat_map (nodes_of k) gs)) c.as_slice.ensures)
