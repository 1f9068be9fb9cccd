use Rattle.std.proofs.Common.{◌∙◌, ap, [], ◌∷◌, ◌+◌, arith, drop, length}
use Rattle.fix_values.specs.declared.short.TheConstants.{ROOM}
use Rattle.fix_values.specs.Codes.{codes_in, has_bit, is_choice}
use Rattle.fix_values.specs.Tables.{with_codes}
use Rattle.fix_values.proofs.CodeLemmas.{item_on, filter_on, all_on, bits_on, text_on, room_on, few}
use Rattle.fix_values.proofs.code.put_codes.Goals as goal

pub loop-code-init : goal.loop-code-init
loop-code-init c =
    let most = few c.args.codes.now c.args.bits c.requires.choices c.requires.apart in
    record {
      choices = c.requires.choices;
      room = omega (arith, most, ap length c.requires.empty);
      small = omega arith;
      sum = omega arith;
      text = ap (λ out. with_codes out (codes_in c.args.codes.now c.args.bits)) c.requires.empty;
    }

pub loop-code-preserved : goal.loop-code-preserved
loop-code-preserved c =
    let x = c.code-item.result in
    let rest = drop (c.loop-code.code-index + 1) c.args.codes.now in
    let on = item_on c.args.codes.now c.as_slice-code-items.result.now c.loop-code.code-index x c.as_slice-code-items.ensures c.code-item.is c.loop-code-test.true in
    let chosen = filter_on (has_bit c.args.bits) _ x rest on in
    let a = codes_in (x ∷ []) c.args.bits in
    let b = codes_in rest c.args.bits in
    record {
      choices = (all_on is_choice _ x rest on c.loop-code.invariant.choices).1;
      room = room_on _ _ ROOM _ a b chosen c.loop-code.invariant.room c.put_choice.ensures.room;
      small = omega (arith, c.put_choice.ensures.small, c.loop-code.invariant.small);
      sum = rw c.put_choice.ensures.sum (bits_on c.loop-code.shown _ _ a b chosen c.loop-code.invariant.sum);
      text = rw c.put_choice.ensures.text (text_on c.loop-code.out _ a b chosen ∙ c.loop-code.invariant.text);
    }
