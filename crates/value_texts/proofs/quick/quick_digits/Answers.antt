use Rattle.std.proofs.Common.{◌≡◌, drop, unsigned_abs, subst, sym, arith}
use Rattle.std.specs.Int.{w64, FitsUnsigned}
use Rattle.value_texts.proofs.Leaving.{whole}
use Rattle.std.proofs.lemmas.Fmt.{length-decimal-le}
use Rattle.message_walk.proofs.Values.{count_value}
use Rattle.tagvalue_codec.specs.Drafts.{IsValue}
use Rattle.value_texts.proofs.QuickTexts.{fits_small, room_digits, digits_told}
use Rattle.value_texts.proofs.quick.quick_digits.Goals as goal

pub write_digits-requires : goal.write_digits-requires
write_digits-requires c =
    let size = c.in-Ok.size in
    let fits = whole (λ z. FitsUnsigned w64 z) c.args.n c.ranges.n c.in-Ok.ensures.0 in
    let is = whole (λ z. size ≡ unsigned_abs z) c.args.n c.ranges.n c.in-Ok.ensures.1 in
    let small = fits_small c.args.n size fits is in
    let short = length-decimal-le 20 size (omega arith) (omega (arith, small)) small in
    (omega (arith, short), omega (arith, c.requires))

pub returns-in-Ok-clause-value : goal.returns-in-Ok-clause-value
returns-in-Ok-clause-value c =
    let size = c.in-Ok.size in
    let fits = whole (λ z. FitsUnsigned w64 z) c.args.n c.ranges.n c.in-Ok.ensures.0 in
    let is = whole (λ z. size ≡ unsigned_abs z) c.args.n c.ranges.n c.in-Ok.ensures.1 in
    let small = fits_small c.args.n size fits is in
    let text = room_digits c.write_digits.new.buf c.args.room.now c.write_digits.result size c.requires c.write_digits.ensures.written in
    (omega (arith, c.write_digits.ensures.start, c.requires), subst IsValue (sym text) (count_value size small))

pub returns-in-Ok-clause-told : goal.returns-in-Ok-clause-told
returns-in-Ok-clause-told c =
    let size = c.in-Ok.size in
    let fits = whole (λ z. FitsUnsigned w64 z) c.args.n c.ranges.n c.in-Ok.ensures.0 in
    let is = whole (λ z. size ≡ unsigned_abs z) c.args.n c.ranges.n c.in-Ok.ensures.1 in
    let text = room_digits c.write_digits.new.buf c.args.room.now c.write_digits.result size c.requires c.write_digits.ensures.written in
    digits_told c.args.n size (drop c.write_digits.result c.write_digits.new.buf) fits is text
