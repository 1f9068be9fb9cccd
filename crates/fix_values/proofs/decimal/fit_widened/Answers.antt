use Rattle.std.proofs.Common.{◌∙◌, ap, Ok}
use Rattle.std.specs.Int.{w128}
use Rattle.std.proofs.lemmas.Int.{to_z-of_z}
use Rattle.fix_values.specs.Decimals.{leaf_number, widened}
use Rattle.fix_values.proofs.LeafLemmas.{read_is_judged}
use Rattle.fix_values.proofs.decimal.fit_widened.Goals as goal

pub returns : goal.returns
returns c =
    c.admitted.ensures.value ∙ (read_is_judged c.args.leaf.now c.widened.result _ c.widened.ensures (c.admitted.ensures.outside _)
    ∙ ap (λ n. leaf_number c.args.leaf.now (Ok (widened n c.args.places))) (to_z-of_z w128 c.args.number c.ranges.number))
