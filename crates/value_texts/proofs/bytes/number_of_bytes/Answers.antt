use Rattle.std.proofs.Common.{◌∙◌, rules, subst, sym, ap, FitsSigned, to_z, of_z, ℤ}
use Rattle.std.specs.Int.{w64, w128}
use Rattle.fix_values.specs.Values.{text_of}
use Rattle.bridge_rules.specs.Texts.{field_text, text_if_any}
use Rattle.value_texts.specs.Quick.{IsQuick}
use Rattle.value_texts.proofs.Leaving.{narrow, whole}
use Rattle.value_texts.proofs.bytes.number_of_bytes.Goals as goal

pub returns-in-Number-clause-told : goal.returns-in-Number-clause-told
returns-in-Number-clause-told c = λ v reads.
    let rule = c.args.rule.now in
    let n = c.in-Number.n in
    let fits : FitsSigned w128 n = search rules in
    let small : FitsSigned w64 n = search rules in
    let P : ℤ → Type 0 = λ n. IsQuick c.quick.result c.quick.new.room (field_text (text_of rule n)) in
    let read = reads c.in-Number.ensures.0 ∙ c.in-Number.ensures.1 in
    subst (λ o. IsQuick c.quick.result c.quick.new.room (text_if_any o (λ n. text_of rule n))) (sym read)
    (whole P n fits (narrow (λ n. P (to_z w128 (of_z w128 n))) n small c.quick.ensures.told))

pub returns-in-Null-clause-told : goal.returns-in-Null-clause-told
returns-in-Null-clause-told c = λ v reads.
    let rule = c.args.rule.now in
    ap (λ o. text_if_any o (λ n. text_of rule n)) (reads c.in-Null.ensures.0 ∙ c.in-Null.ensures.1)
