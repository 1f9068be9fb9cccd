use Rattle.std.proofs.Common.{◌≡◌, subst, true, Ok}
use Rattle.fix_values.specs.Values.{can_show, text_of}
use Rattle.value_texts.proofs.Leaving.{whole}
use Rattle.value_texts.proofs.Plain.{number_plain, value_of_plain}
use Rattle.value_texts.proofs.sets.SetSpelling.put.Goals as goal

pub put_text-requires-clause-value : goal.put_text-requires-clause-value
put_text-requires-clause-value c =
    let rule = c.args.self.now in
    let text = c.in-Some.text.now in
    let can : can_show rule ≡ true = subst (λ rule. can_show rule ≡ true) c.self.view_is c.self.invariant.0 in
    let told = whole (λ n. text_of rule n ≡ Ok text) c.args.n c.ranges.n c.in-Some.ensures in
    value_of_plain text (number_plain rule c.args.n c.ranges.n can text told)
