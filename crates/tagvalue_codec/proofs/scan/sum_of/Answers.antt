use Rattle.std.proofs.Common.{◌≡◌, ◌≤◌, ◌+◌, length, take, drop, ◌∙◌, arith, refl, sym, ap}
use Rattle.std.specs.Prelude.{sum}
use Rattle.std.proofs.lemmas.List.{take_rest}
use Rattle.std.proofs.lemmas.Simd.{length-chunk, length-zip2}
use Rattle.tagvalue_codec.proofs.Summing.{lanes_added, sum_further, sum_whole}
use Rattle.tagvalue_codec.proofs.scan.sum_of.Goals as goal

pub loop-i-preserved : goal.loop-i-preserved
loop-i-preserved c =
    let near : c.loop-i.i + 16 ≤ length c.args.bytes.now = omega arith in
    let long = length-chunk c.loop-i.i 16 c.args.bytes.now near in
    let even : length c.loop-i.sums ≡ length (take 16 (drop c.loop-i.i c.args.bytes.now)) = c.loop-i.invariant.1 ∙ sym long in
    let added = lanes_added _ (λ a b. refl) c.loop-i.sums (take 16 (drop c.loop-i.i c.args.bytes.now)) even in
    let further = sum_further c.loop-i.i 16 c.args.bytes.now in
    (near, length-zip2 _ c.loop-i.sums _ even ∙ c.loop-i.invariant.1, omega (arith, added, further, c.loop-i.invariant))

pub returns : goal.returns
returns c =
    let rest = ap sum (take_rest c.args.bytes.now c.loop-i.i) in
    omega (arith, rest, sum_whole c.loop-i.i c.args.bytes.now, c.loop-i.invariant, c.sum_near.ensures, c.sum_near-2.ensures)
