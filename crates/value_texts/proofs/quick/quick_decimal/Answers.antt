use Rattle.std.proofs.Common.{◌≡◌, Ok, Some, ap, subst, sym, ◌∙◌, arith, to_z, of_z}
use Rattle.std.specs.Int.{w128}
use Rattle.fix_values.specs.Decimals.{dec, decimal_text, parts_text}
use Rattle.bridge_rules.specs.Texts.{field_text}
use Rattle.tagvalue_codec.specs.Drafts.{IsValue}
use Rattle.value_texts.specs.Small.{small_parts}
use Rattle.value_texts.proofs.Plain.{decimal_plain, value_of_plain}
use Rattle.value_texts.proofs.Leaving.{whole}
use Rattle.value_texts.proofs.quick.quick_decimal.Goals as goal

pub returns-in-Some-clause-value : goal.returns-in-Some-clause-value
returns-in-Some-clause-value c =
    let text = parts_text (small_parts c.in-Some.small) in
    let shown = whole (λ e. decimal_text (dec c.args.mantissa e) ≡ Ok text) c.args.exponent c.ranges.exponent
    (whole (λ m. decimal_text (dec m (to_z w128 (of_z w128 c.args.exponent))) ≡ Ok text) c.args.mantissa c.ranges.mantissa c.in-Some.ensures.text) in (
      omega (arith, c.write_small.ensures.within, c.write_small.ensures.long),
      subst IsValue (sym c.write_small.ensures.text) (value_of_plain text (decimal_plain c.args.mantissa c.args.exponent c.ranges.mantissa text shown)),
    )

pub returns-in-Some-clause-told : goal.returns-in-Some-clause-told
returns-in-Some-clause-told c =
    let text = parts_text (small_parts c.in-Some.small) in
    let shown = whole (λ e. decimal_text (dec c.args.mantissa e) ≡ Ok text) c.args.exponent c.ranges.exponent
    (whole (λ m. decimal_text (dec m (to_z w128 (of_z w128 c.args.exponent))) ≡ Ok text) c.args.mantissa c.ranges.mantissa c.in-Some.ensures.text) in
    ap field_text shown ∙ ap (λ t. Ok (Some t)) (sym c.write_small.ensures.text)
