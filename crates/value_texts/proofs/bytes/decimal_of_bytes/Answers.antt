use Rattle.std.proofs.Common.{◌∙◌, rules, subst, sym, ap, FitsSigned, to_z, of_z, ℤ}
use Rattle.std.specs.Int.{w64, w128}
use Rattle.fix_values.specs.Decimals.{dec, decimal_text}
use Rattle.bridge_rules.specs.Texts.{field_text, text_if_any}
use Rattle.value_texts.specs.Quick.{IsQuick}
use Rattle.value_texts.proofs.Leaving.{narrow, whole}
use Rattle.value_texts.proofs.bytes.decimal_of_bytes.Goals as goal

pub returns-in-Number-clause-told : goal.returns-in-Number-clause-told
returns-in-Number-clause-told c = λ v reads.
    let e = c.args.exponent in
    let n = c.in-Number.n in
    let fits : FitsSigned w128 n = search rules in
    let small : FitsSigned w64 n = search rules in
    let P : ℤ → ℤ → Type 0 = λ m e. IsQuick c.quick_decimal.result c.quick_decimal.new.room (field_text (decimal_text (dec m e))) in
    let read = reads c.in-Number.ensures.0 ∙ c.in-Number.ensures.1 in
    subst (λ o. IsQuick c.quick_decimal.result c.quick_decimal.new.room (text_if_any o (λ m. decimal_text (dec m e)))) (sym read)
    (whole (λ e. P n e) e c.ranges.exponent
    (whole (λ m. P m (to_z w128 (of_z w128 e))) n fits (narrow (λ m. P (to_z w128 (of_z w128 m)) (to_z w128 (of_z w128 e))) n small c.quick_decimal.ensures.told)))

pub returns-in-Null-clause-told : goal.returns-in-Null-clause-told
returns-in-Null-clause-told c = λ v reads.
    ap (λ o. text_if_any o (λ m. decimal_text (dec m c.args.exponent))) (reads c.in-Null.ensures.0 ∙ c.in-Null.ensures.1)
