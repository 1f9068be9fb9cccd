use Rattle.std.proofs.Common.{ap, sym, ◌∙◌, rules}
use Rattle.fix_values.specs.Values.{spelled_number}
use Rattle.fix_values.specs.Decimals.{leaf_number}
use Rattle.fix_values.proofs.NumeralLemmas.{integer_is}
use Rattle.fix_values.proofs.LeafLemmas.{read_is_judged}
use Rattle.fix_values.proofs.number.read_integer.Goals as goal

pub returns : goal.returns
returns c =
    let same = read_is_judged c.args.leaf.now c.spelled.result _ c.spelled.ensures (c.admitted.ensures.outside _) in
    let number = integer_is c.args.text.now _ _ c.split_sign-negative.ensures.negative c.split_sign-negative.ensures.digits (search rules) in
    c.admitted.ensures.value ∙ (same ∙ sym (ap (λ r. leaf_number c.args.leaf.now (spelled_number r)) number))
