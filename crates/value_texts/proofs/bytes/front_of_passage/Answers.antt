use Rattle.std.proofs.Common.{◌≡◌, ◌<◌, ◌∙◌, ℕ, List, length, take, subst, sym, ap, arith, length-take-le}
use Rattle.std.specs.Prelude.{Some}
use Rattle.std.proofs.lemmas.Bool.Decides.{nat_tests}
use Rattle.fix_values.specs.Values.{text_shown}
use Rattle.bridge_rules.specs.Members.{text_in}
use Rattle.bridge_rules.specs.Texts.{judged_text, text_if_any}
use Rattle.message_walk.proofs.Values.{plain_value}
use Rattle.value_texts.proofs.PlainFronts.{plain_text}
use Rattle.value_texts.proofs.bytes.front_of_passage.Goals as goal

pub returns-clause-value : goal.returns-clause-value
returns-clause-value c =
    let count = c.plain_front-count.result in
    let bytes = c.args.bytes.now in
    let some : 0 < count = grind (arith, nat_tests) in
    let is = c.plain_front-count.ensures some in
    let long : length (take count bytes) ≡ count = length-take-le count bytes (omega (arith, is.within, is.eight)) in
    record { wide = omega (arith, is.eight); few = is.within; value = plain_value (take count bytes) (omega (arith, long, some)) is.plain }

pub returns-clause-told : goal.returns-clause-told
returns-clause-told c = λ face v reads.
    let count = c.plain_front-count.result in
    let bytes = c.args.bytes.now in
    let some : 0 < count = grind (arith, nat_tests) in
    let is = c.plain_front-count.ensures some in
    let long : length (take count bytes) ≡ count = length-take-le count bytes (omega (arith, is.within, is.eight)) in
    let there : 0 < length (take count bytes) = omega (arith, long, some) in
    let text : text_in v ≡ Some (take count bytes) = reads (subst (λ (t : List ℕ). 0 < length t) is.text there) ∙ ap Some (sym is.text) in
    ap (λ o. text_if_any o (λ t. judged_text t (text_shown t))) text ∙ plain_text (take count bytes) there is.plain
