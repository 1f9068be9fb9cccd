use Rattle.std.proofs.Common.{length, arith}
use Rattle.bridge_terms.specs.Parts.{pieces_of}
use Rattle.field_judge.specs.Fields.{fields_of}
use Rattle.field_judge.proofs.Cutting.{counted_next, counted_whole}
use Rattle.field_judge.proofs.SliceLemmas.{dropped, got}
use Rattle.field_judge.proofs.pieces.count_pieces.Goals as goal

pub loop-i-preserved : goal.loop-i-preserved
loop-i-preserved c =
    let x = got c.args.run.now c.loop-i.i (omega (arith, c.loop-i-test.true)) in
    let whole = length (pieces_of c.args.delimiter (fields_of c.args.run.now)).pieces in (
      counted_next c.args.delimiter c.args.run.now c.loop-i.i c.loop-i.count c.counted-count.result whole x.0 x.1 (c.counted-count.ensures.some x.0 x.1) (c.counted-count.ensures.none x.0 x.1) c.loop-i.invariant.0,
      omega (arith, c.loop-i.invariant.1, c.counted-count.ensures.few),
    )

pub returns-clause-same : goal.returns-clause-same
returns-clause-same c =
    counted_whole c.args.delimiter c.args.run.now c.loop-i.i c.loop-i.count (length (pieces_of c.args.delimiter (fields_of c.args.run.now)).pieces)
    (dropped c.args.run.now c.loop-i.i (omega (arith, c.loop-i-test.false))) c.loop-i.invariant.0
