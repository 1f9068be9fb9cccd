use Rattle.std.proofs.Common.{subst, sym}
use Rattle.fix_values.specs.Decimals.{dec, decimal_text}
use Rattle.bridge_rules.specs.Texts.{text_if_any}
use Rattle.message_walk.specs.Rows.{field_of}
use Rattle.message_walk.specs.States.{IsPut, PutResult}
use Rattle.value_texts.proofs.Leaving.{whole}
use Rattle.value_texts.proofs.at.decimal_at.Goals as goal

pub returns-clause-put : goal.returns-clause-put
returns-clause-put c = λ lists unpaired.
    let r : PutResult = record { put = c.put_fixed_decimal.result; draft = c.put_fixed_decimal.new.out; halt = c.put_fixed_decimal.new.halt } in
    let mantissa = c.mantissa_of-mantissa.ensures (field_of c.args.block.now c.args.number) c.field_at-field.ensures.seen in
    subst (λ o. IsPut lists c.args.out.now c.args.lead.now (text_if_any o (λ m. decimal_text (dec m c.args.exponent))) r) (sym mantissa)
    (whole (λ e. IsPut lists c.args.out.now c.args.lead.now (text_if_any c.mantissa_of-mantissa.result (λ m. decimal_text (dec m e))) r) c.args.exponent c.ranges.exponent
    (c.put_fixed_decimal.ensures.put lists unpaired))
