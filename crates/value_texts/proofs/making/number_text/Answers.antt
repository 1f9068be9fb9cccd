use Rattle.std.proofs.Common.{subst, ap, ◌∙◌, ◌≡◌, true, rules}
use Rattle.fix_values.specs.Values.{can_show, is_asked, text_of, Leaves}
use Rattle.value_texts.specs.Rows.{const_text}
use Rattle.value_texts.proofs.Leaving.{whole}
use Rattle.value_texts.proofs.MadeRows.{kept_is}
use Rattle.value_texts.proofs.Plain.{number_plain}
use Rattle.value_texts.proofs.making.number_text.Goals as goal

pub returns-clause-shown : goal.returns-clause-shown
returns-clause-shown c = λ asked.
    let shown = c.show-shown.result in
    let text = c.show-shown.new.out in
    let own : can_show c.in-Some.spelling ≡ true = search rules in
    let can : can_show c.args.rule ≡ true = subst (λ s. can_show s ≡ true) c.in-Some.ensures.same own in
    let told = whole (λ n. is_asked c.in-Some.spelling n ≡ true → Leaves shown text (text_of c.in-Some.spelling n)) c.args.n c.ranges.n c.show-shown.ensures.shown in
    let left = subst (λ s. is_asked s c.args.n ≡ true → Leaves shown text (text_of s c.args.n)) c.in-Some.ensures.same told asked in
    ap const_text c.in_ok-kept.ensures ∙ kept_is shown text (text_of c.args.rule c.args.n) left (number_plain c.args.rule c.args.n c.ranges.n can)
