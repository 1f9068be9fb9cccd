use Rattle.std.proofs.Common.{arith, rules, ◌≡◌, length}
use Rattle.std.proofs.lemmas.Bool.Decides.{nat_tests}
use Rattle.value_texts.proofs.QuickTexts.{single_plain}
use Rattle.value_texts.proofs.quick.is_plain.Goals as goal

pub returns-then-text-eq1-clause-plain : goal.returns-then-text-eq1-clause-plain
returns-then-text-eq1-clause-plain c = λ yes.
    let one : length c.args.text.now ≡ 1 = search rules in
    single_plain c.args.text.now one (grind (arith, nat_tests))
