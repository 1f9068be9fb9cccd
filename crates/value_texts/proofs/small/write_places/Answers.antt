use Rattle.std.proofs.Common.{◌∙◌, ap, arith, refl, ◌/◌}
use Rattle.std.proofs.lemmas.List.{drop_all, length-set}
use Rattle.value_texts.proofs.SmallDecimals.{tenth_after, place_written}
use Rattle.value_texts.proofs.small.write_places.Goals as goal

pub loop-init : goal.loop-init
loop-init c = record {
  long = c.requires.long;
  begin = refl;
  whole = omega arith;
  text = drop_all 40 c.args.room.now (omega (arith, c.requires.long));
}

pub loop-preserved : goal.loop-preserved
loop-preserved c = record {
  long = length-set c.loop.room _ _ ∙ c.loop.invariant.long;
  begin = omega (arith, c.loop.invariant.begin, c.loop-test.true, c.requires.few);
  whole = ap (λ n. n / 10) c.loop.invariant.whole ∙ tenth_after c.loop.counter c.args.size;
  text = place_written c.loop.room c.loop.at c.loop.counter c.args.size c.loop.whole (omega (arith, c.loop.invariant.begin, c.loop-test.true, c.requires.few))
      (omega (arith, c.loop.invariant.begin, c.loop.invariant.long)) c.loop.invariant.whole c.loop.invariant.text;
}
