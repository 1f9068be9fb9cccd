use Rattle.std.proofs.Common.{◌∙◌, arith}
use Rattle.value_texts.proofs.SmallDecimals.{other_last, whole_before, zero_last}
use Rattle.value_texts.proofs.small.shortened.Goals as goal

pub returns-then-size-ne0-clause-fraction : goal.returns-then-size-ne0-clause-fraction
returns-then-size-ne0-clause-fraction c =
    other_last c.loop-places.size c.loop-places.places c.loop-places-test.true c.if-size-ne0.true ∙ c.loop-places.invariant.fraction

pub loop-places-preserved : goal.loop-places-preserved
loop-places-preserved c = record {
  few = omega (arith, c.loop-places-test.true, c.loop-places.invariant.few);
  whole = whole_before c.loop-places.size c.loop-places.places c.loop-places-test.true ∙ c.loop-places.invariant.whole;
  fraction = zero_last c.loop-places.size c.loop-places.places c.loop-places-test.true c.if-size-ne0.false ∙ c.loop-places.invariant.fraction;
}
