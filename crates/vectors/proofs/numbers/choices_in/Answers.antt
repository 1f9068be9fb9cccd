use Rattle.std.proofs.Common.{◌≡◌, FitsSigned, rules, arith, int_le, true, false, unsigned_abs, ◌-ℤ◌}
use Rattle.std.specs.Int.{w128}
use Rattle.std.proofs.lemmas.Int.{ints, to_z-of_z}
use Rattle.vectors.proofs.Wholes.{size_some, size_none}
use Rattle.vectors.proofs.numbers.choices_in.Goals as goal

pub returns-then-high-low : goal.returns-then-high-low
returns-then-high-low c =
    let no : int_le c.args.low c.args.high ≡ false = grind (arith, ints) in
    omega (arith, size_none c.args.low c.args.high no)

pub returns : goal.returns
returns c =
    let low : FitsSigned w128 c.args.low = search rules in
    let high : FitsSigned w128 c.args.high = search rules in
    let yes : int_le c.args.low c.args.high ≡ true = grind (arith, ints) in
    let is : c.abs_diff-distance.result ≡ unsigned_abs (c.args.high -ℤ c.args.low) = grind (arith, to_z-of_z, c.abs_diff-distance.ensures) in
    omega (arith, size_some c.args.low c.args.high yes, is, c.min-more.ensures)
