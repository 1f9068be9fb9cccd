use Rattle.std.proofs.Common.{◌≡◌, Ok, rules, FitsSigned, to_z, of_z}
use Rattle.std.specs.Int.{w128}
use Rattle.fix_values.specs.Decimals.{dec, decimal_text, parts_text}
use Rattle.value_texts.specs.Small.{small_parts}
use Rattle.value_texts.proofs.Plain.{decimal_plain, value_of_plain}
use Rattle.value_texts.proofs.Leaving.{whole}
use Rattle.value_texts.proofs.decimals.put_fixed_decimal.Goals as goal

pub put_small-requires-clause-value : goal.put_small-requires-clause-value
put_small-requires-clause-value c =
    let fits : FitsSigned w128 c.in-Some.mantissa = search rules in
    let text = parts_text (small_parts c.in-Some-small_of.small) in
    let shown = whole (λ e. decimal_text (dec c.in-Some.mantissa e) ≡ Ok text) c.args.exponent c.ranges.exponent
    (whole (λ m. decimal_text (dec m (to_z w128 (of_z w128 c.args.exponent))) ≡ Ok text) c.in-Some.mantissa fits c.in-Some-small_of.ensures.text) in
    value_of_plain text (decimal_plain c.in-Some.mantissa c.args.exponent fits text shown)
