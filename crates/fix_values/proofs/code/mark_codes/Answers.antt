use Rattle.std.proofs.Common.{◌∙◌, ap, sym, [], ◌∷◌, ◌+◌, arith, drop, slice_set, true}
use Rattle.fix_values.specs.Codes.{is_choice}
use Rattle.fix_values.specs.Tables.{marked_codes, is_marked_code, with_marks}
use Rattle.fix_values.proofs.CodeLemmas.{item_on, filter_on, all_on, bits_on, first_is}
use Rattle.fix_values.proofs.code.mark_codes.Goals as goal

pub loop-code-preserved : goal.loop-code-preserved
loop-code-preserved c =
    let x = c.code-item.result in
    let rest = drop (c.loop-code.code-index + 1) c.args.codes.now in
    let on = item_on c.args.codes.now c.as_slice-code-items.result.now c.loop-code.code-index x c.as_slice-code-items.ensures c.code-item.is c.loop-code-test.true in
    let chosen = filter_on (is_marked_code c.args.named.now) _ x rest on in
    record {
      choices = (all_on is_choice _ x rest on c.loop-code.invariant.choices).1;
      small = omega (arith, c.named_bit.ensures.small, c.loop-code.invariant.small);
      sum = rw c.named_bit.ensures.sum (bits_on c.loop-code.n _ _ (marked_codes c.args.named.now (x ∷ [])) (marked_codes c.args.named.now rest) chosen c.loop-code.invariant.sum);
      marks = ap (λ b. with_marks (slice_set c.loop-code.coded b true) rest) (sym (first_is x.text _ c.at.ensures)) ∙ (sym (ap (with_marks c.loop-code.coded) on) ∙ c.loop-code.invariant.marks);
    }
