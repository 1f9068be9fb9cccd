use Rattle.std.proofs.Common.{◌≤◌, ℕ, subst, arith}
use Rattle.std.proofs.lemmas.Bool.Decides.{nat_tests}
use Rattle.text_bodies.proofs.FewFields.{few_by_ends}
use Rattle.text_bodies.proofs.few.is_few.Goals as goal

pub returns : goal.returns
returns c = λ yes.
    let low : c.ends_in.result ≤ 4096 = grind (arith, nat_tests) in
    few_by_ends c.args.text.now (subst (λ (n : ℕ). n ≤ 4096) c.ends_in.ensures low)
