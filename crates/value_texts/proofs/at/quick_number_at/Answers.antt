use Rattle.std.proofs.Common.{rules, subst, sym, ap, FitsSigned}
use Rattle.std.specs.Int.{w128}
use Rattle.fix_values.specs.Values.{text_of}
use Rattle.bridge_rules.specs.Texts.{field_text, text_if_any}
use Rattle.message_walk.specs.Rows.{field_of}
use Rattle.value_texts.specs.Quick.{IsQuick}
use Rattle.value_texts.proofs.Leaving.{whole}
use Rattle.value_texts.proofs.at.quick_number_at.Goals as goal

pub returns-in-Some-clause-told : goal.returns-in-Some-clause-told
returns-in-Some-clause-told c =
    let rule = c.args.rule.now in
    let fits : FitsSigned w128 c.in-Some.n = search rules in
    let read = c.in-Some.ensures (field_of c.args.block.now c.args.number) c.field_at-field.ensures.seen in
    subst (λ o. IsQuick c.quick.result c.quick.new.room (text_if_any o (λ n. text_of rule n))) (sym read)
    (whole (λ n. IsQuick c.quick.result c.quick.new.room (field_text (text_of rule n))) c.in-Some.n fits c.quick.ensures.told)

pub returns-in-None-clause-told : goal.returns-in-None-clause-told
returns-in-None-clause-told c =
    let rule = c.args.rule.now in
    ap (λ o. text_if_any o (λ n. text_of rule n)) (c.in-None.ensures (field_of c.args.block.now c.args.number) c.field_at-field.ensures.seen)
