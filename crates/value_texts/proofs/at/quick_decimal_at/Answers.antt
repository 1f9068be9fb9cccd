use Rattle.std.proofs.Common.{rules, subst, sym, ap, to_z, of_z, FitsSigned}
use Rattle.std.specs.Int.{w128}
use Rattle.fix_values.specs.Decimals.{dec, decimal_text}
use Rattle.bridge_rules.specs.Texts.{field_text, text_if_any}
use Rattle.message_walk.specs.Rows.{field_of}
use Rattle.value_texts.specs.Quick.{IsQuick}
use Rattle.value_texts.proofs.Leaving.{whole}
use Rattle.value_texts.proofs.at.quick_decimal_at.Goals as goal

pub returns-in-Some-clause-told : goal.returns-in-Some-clause-told
returns-in-Some-clause-told c =
    let r = c.quick_decimal.result in
    let room = c.quick_decimal.new.room in
    let fits : FitsSigned w128 c.in-Some.mantissa = search rules in
    let read = c.in-Some.ensures (field_of c.args.block.now c.args.number) c.field_at-field.ensures.seen in
    subst (λ o. IsQuick r room (text_if_any o (λ m. decimal_text (dec m c.args.exponent)))) (sym read)
    (whole (λ e. IsQuick r room (field_text (decimal_text (dec c.in-Some.mantissa e)))) c.args.exponent c.ranges.exponent
    (whole (λ m. IsQuick r room (field_text (decimal_text (dec m (to_z w128 (of_z w128 c.args.exponent)))))) c.in-Some.mantissa fits c.quick_decimal.ensures.told))

pub returns-in-None-clause-told : goal.returns-in-None-clause-told
returns-in-None-clause-told c =
    ap (λ o. text_if_any o (λ m. decimal_text (dec m c.args.exponent))) (c.in-None.ensures (field_of c.args.block.now c.args.number) c.field_at-field.ensures.seen)
