use Rattle.std.proofs.Common.{◌≡◌, ◌<◌, ◌+◌, ◌-◌, ◌∷◌, sym, ap, ◌∙◌, subst, arith, length, drop}
use Rattle.json_rows.specs.Codes.{AreTexts}
use Rattle.json_rows.proofs.Coded.{nothing_held}
use Rattle.flat_rows.proofs.RowsJudged.{there}
use Rattle.json_rows.proofs.codes.byte_codes.Goals as goal

pub loop-left-init : goal.loop-left-init
loop-left-init c = record {
  within = omega arith;
  size = omega arith;
  whole = (0, ap length c.new-texts.ensures.items);
  texts = nothing_held 256 _ _ _;
}

pub loop-left-preserved : goal.loop-left-preserved
loop-left-preserved c =
    let names = c.args.names.now in
    let i = c.loop-left.left - 1 in
    let named = c.index-names-left.result in
    let so_far = c.loop-left.invariant in
    let before : i < length names = omega (arith, so_far.within, c.loop-left-test.true) in
    let back : i + 1 ≡ c.loop-left.left = omega (arith, c.loop-left-test.true) in
    let next : drop i names ≡ named ∷ drop c.loop-left.left names = there names i named before c.index-names-left.is ∙ ap (λ k. named ∷ drop k names) back in
    record {
      within = omega (arith, before);
      size = c.in_ok-add_text.ensures.size;
      whole = c.in_ok-add_text.ensures.whole;
      texts = subst (AreTexts c.add_text.new.index c.add_text.new.texts.items c.args.leaf.now) (sym next) (c.in_ok-add_text.ensures.texts (drop c.loop-left.left names) so_far.texts);
    }
