use Rattle.std.proofs.Common.{◌∙◌, arith}
use Rattle.fix_values.proofs.DecimalLemmas.{zero_dropped, digit_kept, none_kept}
use Rattle.fix_values.proofs.decimal.without_trailing_zeros.Goals.{then-loop-end-test+else-digits-end-eq48, else-loop-end-test}
use Rattle.fix_values.proofs.decimal.without_trailing_zeros.Goals as goal

pub loop-end-preserved : goal.loop-end-preserved
loop-end-preserved c = record {
  within = omega arith;
  same = zero_dropped c.args.digits.now c.loop-end.end c.loop-end-test.true c.loop-end.invariant.within c.if-digits-end-eq48.true ∙ c.loop-end.invariant.same;
}

pub returns : goal.returns
returns c =
    elim c.loop-end-test.branch [
      | then-loop-end-test+else-digits-end-eq48 w ↦ digit_kept c.args.digits.now c.loop-end.end w.loop-end-test.true c.loop-end.invariant.within w.if-digits-end-eq48.false ∙ c.loop-end.invariant.same
      | else-loop-end-test w ↦ none_kept c.args.digits.now c.loop-end.end w.loop-end-test.false ∙ c.loop-end.invariant.same
    ]
