use Rattle.std.proofs.Common.{ℕ, ◌==◌, not, arith, refl}
use Rattle.std.proofs.lemmas.Simd.{zip2_splat, length-chunk}
use lib.Lanes.{chunk}
use Rattle.json_values.proofs.Lanes.{lanes_run}
use Rattle.json_values.proofs.runs.lane_text.Goals as goal

pub returns : goal.returns
returns c =
    let v = chunk c.args.at 8 c.args.bytes.now in
    let long = length-chunk c.args.at 8 c.args.bytes.now c.requires in
    lanes_run (λ b. not (b == 0)) c.args.bytes.now c.args.at 8 _ _ c.requires (omega arith) c.type_inv.bytes c.first_set.ensures _ (zip2_splat {Y = ℕ} _ v 8 0 long) refl
