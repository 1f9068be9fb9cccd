use Rattle.std.proofs.Common.{arith, refl, ◌+◌, ◌≡◌, length, decimal}
use Rattle.fix_values.specs.Decimals.{parts_shown, without_leading, fraction_of}
use Rattle.fix_values.proofs.DecimalLemmas.{shown_counted, shown_over, shown_written, text_written}
use Rattle.fix_values.proofs.decimal.put_decimal.Goals as goal

pub returns-then-digits-gt-MOST_DIGITS : goal.returns-then-digits-gt-MOST_DIGITS
returns-then-digits-gt-MOST_DIGITS c =
    let counts : c.put_whole.result + c.put_fraction.result ≡ length (without_leading (decimal c.args.whole)) + length (fraction_of c.args.places c.args.rest) =
    omega (arith, c.put_whole.ensures.count, c.put_fraction.ensures.count) in
    let counted = shown_counted c.args.negative c.args.whole c.args.places c.args.rest (c.put_whole.result + c.put_fraction.result) c.requires.rest counts in
    shown_over (parts_shown c.args.negative c.args.whole c.args.places c.args.rest) _ _ c.clear.new.self counted c.if-digits-gt-MOST_DIGITS.true refl c.clear.ensures

pub returns : goal.returns
returns c =
    let counts : c.put_whole.result + c.put_fraction.result ≡ length (without_leading (decimal c.args.whole)) + length (fraction_of c.args.places c.args.rest) =
    omega (arith, c.put_whole.ensures.count, c.put_fraction.ensures.count) in
    let counted = shown_counted c.args.negative c.args.whole c.args.places c.args.rest (c.put_whole.result + c.put_fraction.result) c.requires.rest counts in
    let text = text_written c.args.negative c.args.whole c.args.places c.args.rest _ _ _ c.put_fraction.new.out c.requires.rest c.requires.empty c.put_sign.ensures c.put_whole.ensures.text c.put_fraction.ensures.text in
    shown_written (parts_shown c.args.negative c.args.whole c.args.places c.args.rest) _ _ c.put_fraction.new.out counted c.if-digits-gt-MOST_DIGITS.false refl text
