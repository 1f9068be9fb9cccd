use Rattle.std.proofs.Common.{arith}
use Rattle.text_judge.specs.OwnPairs.{HasOwnPair}
use Rattle.exact_plans.proofs.Taking.{all_taken}
use Rattle.text_judge.proofs.pairs.have_own_pairs.Goals as goal

pub loop-field-preserved : goal.loop-field-preserved
loop-field-preserved c =
    all_taken (λ f. HasOwnPair c.args.tags.now f.now) c.args.fields.now c.loop-field.field-index c.field-item.result (omega arith) c.field-item.is c.loop-field.invariant (c.has_own_pair.ensures c.if-not-has_own_pair.false)
