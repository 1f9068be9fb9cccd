use Rattle.std.proofs.Common.{ℕ, ltb, cond, bit_or, arith}
use Rattle.std.proofs.lemmas.Simd.{zip2_splat, zip2_splat_left, length-chunk}
use lib.Lanes.{chunk}
use Rattle.flat_rows.proofs.LaneRuns.{between_run, zip_of_maps}
use Rattle.value_texts.proofs.fronts.plain_run.Goals as goal

pub returns : goal.returns
returns c =
    let v = chunk 0 8 c.args.bytes.now in
    let long = length-chunk 0 8 c.args.bytes.now c.requires in
    let lanes = zip_of_maps bit_or _ _ v (zip2_splat {Y = ℕ} _ v 8 2 long) (zip2_splat_left (λ a b. cond (ltb a b) 255 0) 255 8 v long) in
    between_run 2 255 c.args.bytes.now 0 8 _ _ c.requires (omega arith) c.first_set.ensures lanes
