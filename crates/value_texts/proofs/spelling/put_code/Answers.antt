use Rattle.std.proofs.Common.{◌≡◌, ◌≤◌, drop, Err, ap, subst, sym, ◌∙◌, arith, length}
use Rattle.std.proofs.lemmas.List.{drop_all}
use Rattle.fix_values.specs.declared.rule.V.TheVariants.{UnknownCode}
use Rattle.fix_values.specs.Codes.{code_text}
use Rattle.bridge_rules.specs.Texts.{field_text}
use Rattle.tagvalue_codec.specs.Drafts.{Draft}
use Rattle.message_walk.specs.States.{IsPut, PutResult}
use Rattle.value_texts.proofs.Leaving.{whole}
use Rattle.value_texts.proofs.spelling.put_code.Goals as goal

pub returns-clause-put : goal.returns-clause-put
returns-clause-put c = λ lists unpaired.
    let codes = c.args.codes.now in
    let put : Draft → PutResult = λ d. record { put = c.refuse.result; draft = d; halt = c.refuse.new.halt } in
    let all : length codes ≤ c.loop-code.code-index = omega (arith, c.loop-code-test.false, ap length c.as_slice-code-items.ensures) in
    let same = whole (λ n. code_text (drop c.loop-code.code-index codes) n ≡ code_text codes n) c.args.n c.ranges.n c.loop-code.invariant.same in
    let told = ap (λ l. code_text l c.args.n) (sym (drop_all c.loop-code.code-index codes all)) ∙ same in
    subst (λ t. IsPut lists c.args.out.now c.args.lead.now (field_text t) (put c.loop-code.out)) told
    (subst (λ d. IsPut lists d c.args.lead.now (Err UnknownCode) (put c.loop-code.out)) c.loop-code.invariant.out (c.refuse.ensures lists c.loop-code.out c.args.lead.now))
