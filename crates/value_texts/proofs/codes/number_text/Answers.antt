use Rattle.std.proofs.Common.{◌≡◌, ◌∙◌, ap, sym, rules, FitsSigned, to_z, of_z}
use Rattle.std.specs.Int.{w64, w128}
use Rattle.std.specs.Prelude.{Ok, Some}
use Rattle.fix_values.specs.Values.{text_of}
use Rattle.bridge_rules.specs.Texts.{field_text}
use Rattle.value_texts.proofs.Leaving.{left_ok, narrow, whole}
use Rattle.value_texts.proofs.codes.number_text.Goals as goal

pub returns-in-Ok : goal.returns-in-Ok
returns-in-Ok c = λ some.
    let n = c.args.n in
    let rule = c.args.spelling.now in
    let text = c.show.new.out in
    let fits : FitsSigned w128 n = search rules in
    let small : FitsSigned w64 n = search rules in
    let left = left_ok c.show.result text (text_of rule (to_z w128 (of_z w128 (to_z w64 (of_z w64 n))))) c.in-Ok.is (c.show.ensures.shown c.in-Ok.ensures.asked) in
    let told = whole (λ n. text_of rule n ≡ Ok text) n fits (narrow (λ n. text_of rule (to_z w128 (of_z w128 n)) ≡ Ok text) n small left) in
    ap field_text told ∙ ap (λ t. Ok (Some t)) (sym (c.new.ensures some ∙ c.bytes.ensures))
