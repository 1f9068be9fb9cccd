use Rattle.std.proofs.Common.{ℕ, arith}
use Rattle.std.proofs.lemmas.Simd.{zip2_splat, length-chunk}
use lib.Lanes.{chunk}
use Rattle.flat_rows.proofs.LaneRuns.{zero_run}
use Rattle.value_texts.proofs.fronts.set_run.Goals as goal

pub returns : goal.returns
returns c =
    let v = chunk 0 8 c.args.bytes.now in
    let long = length-chunk 0 8 c.args.bytes.now c.requires in
    zero_run c.args.bytes.now 0 8 _ _ c.requires (omega arith) c.first_set.ensures (zip2_splat {Y = ℕ} _ v 8 0 long)
