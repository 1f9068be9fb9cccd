use Rattle.std.proofs.Common.{◌≡◌, ◌∙◌, ap, sym, rules, arith, FitsSigned, int_le, true, false, unsigned_abs, ◌-ℤ◌, Ok}
use Rattle.std.specs.Int.{w32, w128}
use Rattle.std.proofs.lemmas.Int.{to_z-of_z, ints}
use Rattle.fix_values.specs.Decimals.{leaf_number, narrowed, widened}
use Rattle.fix_values.proofs.DecimalLemmas.{under_wide, under_narrow}
use Rattle.fix_values.proofs.decimal.fit_decimal.Goals as goal

pub returns-then-own-exponent : goal.returns-then-own-exponent
returns-then-own-exponent c =
    let number : FitsSigned w128 c.args.dec.now.mantissa = search rules in
    let own : FitsSigned w32 c.args.dec.now.exponent = search rules in
    let high : int_le c.args.exponent c.args.dec.now.exponent ≡ false = grind (arith, ints) in
    let places : c.abs_diff.result ≡ unsigned_abs (c.args.exponent -ℤ c.args.dec.now.exponent) = grind (arith, to_z-of_z, c.abs_diff.ensures) in
    let same = under_narrow c.args.dec.now c.args.exponent c.abs_diff.result high places in
    let there : c.fit_narrowed.result ≡ leaf_number c.args.mantissa.now (narrowed c.args.dec.now.mantissa c.abs_diff.result) = grind (arith, to_z-of_z, c.fit_narrowed.ensures) in
    there ∙ ap (leaf_number c.args.mantissa.now) (sym same)

pub returns : goal.returns
returns c =
    let number : FitsSigned w128 c.args.dec.now.mantissa = search rules in
    let own : FitsSigned w32 c.args.dec.now.exponent = search rules in
    let low : int_le c.args.exponent c.args.dec.now.exponent ≡ true = grind (arith, ints) in
    let places : c.abs_diff-2.result ≡ unsigned_abs (c.args.dec.now.exponent -ℤ c.args.exponent) = grind (arith, to_z-of_z, c.abs_diff-2.ensures) in
    let same = under_wide c.args.dec.now c.args.exponent c.abs_diff-2.result low places in
    c.fit_widened.ensures ∙ (ap (λ n. leaf_number c.args.mantissa.now (Ok (widened n c.abs_diff-2.result))) (to_z-of_z w128 c.args.dec.now.mantissa number) ∙ ap (leaf_number c.args.mantissa.now) (sym same))
