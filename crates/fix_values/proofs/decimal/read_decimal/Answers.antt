use Rattle.std.proofs.Common.{◌≡◌, ◌∙◌, true, subst, sym}
use Rattle.std.specs.Str.{all_ascii_digits}
use Rattle.fix_values.proofs.DecimalLemmas.{digits_leading, digits_trailing, parts_digits}
use Rattle.fix_values.proofs.decimal.read_decimal.Goals as goal

pub reduced-requires-clause-whole : goal.reduced-requires-clause-whole
reduced-requires-clause-whole c =
    let digits = parts_digits c.split_point.result.0.now c.split_point.result.1.now (sym c.are_digits.ensures ∙ c.if-not-are_digits.false) in
    subst (λ ds. all_ascii_digits ds ≡ true) (sym c.without_leading_zeros-whole.ensures) (digits_leading c.split_point.result.0.now digits.0)

pub reduced-requires-clause-fraction : goal.reduced-requires-clause-fraction
reduced-requires-clause-fraction c =
    let digits = parts_digits c.split_point.result.0.now c.split_point.result.1.now (sym c.are_digits.ensures ∙ c.if-not-are_digits.false) in
    subst (λ ds. all_ascii_digits ds ≡ true) (sym c.without_trailing_zeros-fraction.ensures) (digits_trailing c.split_point.result.1.now digits.1)
