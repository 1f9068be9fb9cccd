use Rattle.std.proofs.Common.{ℕ, ltb, cond, bit_or, arith}
use Rattle.std.proofs.lemmas.Simd.{zip2_splat, zip2_splat_left, length-chunk}
use lib.Lanes.{chunk}
use Rattle.flat_rows.proofs.LaneRuns.{between_run, zip_of_maps}
use Rattle.flat_rows.proofs.runs.lane_run.Goals as goal

pub returns : goal.returns
returns c =
    let v = chunk c.args.at 8 c.args.bytes.now in
    let long = length-chunk c.args.at 8 c.args.bytes.now c.requires in
    let lanes = zip_of_maps bit_or _ _ v (zip2_splat {Y = ℕ} _ v 8 c.args.low long) (zip2_splat_left (λ a b. cond (ltb a b) 255 0) c.args.high 8 v long) in
    between_run c.args.low c.args.high c.args.bytes.now c.args.at 8 _ _ c.requires (omega arith) c.first_set.ensures lanes
