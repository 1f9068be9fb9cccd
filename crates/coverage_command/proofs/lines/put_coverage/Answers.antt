use Rattle.std.proofs.Common.{refl, arith}
use Rattle.std.proofs.lemmas.Option.{slice_get_read}
use Rattle.schema_lines.proofs.Growing.{texts_more}
use Rattle.coverage_command.specs.Coverage.{covered_lines}
use Rattle.coverage_command.proofs.lines.put_coverage.Goals as goal

pub loop-i-preserved : goal.loop-i-preserved
loop-i-preserved c = λ m are.
    let own = c.index-levels-i.result in
    let at = slice_get_read c.args.levels.now _ c.loop-i.i own refl (omega arith) c.index-levels-i.is in
    texts_more (covered_lines m) c.args.levels.now c.loop-i.i own c.args.out.now.items c.loop-i.out.items _ (omega arith) c.index-levels-i.is (c.loop-i.invariant m are)
    (c.in_ok-put_covered.ensures m c.args.levels.now are at).grown
