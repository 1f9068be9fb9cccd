use Rattle.std.proofs.Common.{ℕ, ltb, cond, bit_or, refl, arith}
use Rattle.std.proofs.lemmas.Simd.{zip2_splat, zip2_splat_left, length-chunk}
use lib.Lanes.{chunk}
use Rattle.json_values.specs.Plain.{is_plain_byte}
use Rattle.json_values.proofs.Lanes.{lanes_run, zip_of_maps}
use Rattle.json_values.proofs.runs.lane_run.Goals as goal

pub returns : goal.returns
returns c =
    let v = chunk c.args.at 8 c.args.bytes.now in
    let long = length-chunk c.args.at 8 c.args.bytes.now c.requires in
    let outside = zip_of_maps bit_or _ _ v (zip2_splat {Y = ℕ} _ v 8 32 long) (zip2_splat_left (λ a b. cond (ltb a b) 255 0) 126 8 v long) in
    let escaped = zip_of_maps bit_or _ _ v (zip2_splat {Y = ℕ} _ v 8 34 long) (zip2_splat {Y = ℕ} _ v 8 92 long) in
    lanes_run is_plain_byte c.args.bytes.now c.args.at 8 _ _ c.requires (omega arith) c.type_inv.bytes c.first_set.ensures _ (zip_of_maps bit_or _ _ v outside escaped) refl
