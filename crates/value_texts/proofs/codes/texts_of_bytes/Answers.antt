use Rattle.std.proofs.Common.{◌∷◌, [], ap, length, length-append, arith}
use Rattle.value_texts.proofs.CodeBytes.{one_more}
use Rattle.value_texts.proofs.codes.texts_of_bytes.Goals as goal

pub loop-byte-preserved : goal.loop-byte-preserved
loop-byte-preserved c =
    let codes = c.loop-byte.codes in (
      omega (arith, ap length c.in_ok-push.ensures.ok, length-append codes (c.text_of_byte.result ∷ []), c.loop-byte.invariant.0),
      one_more c.args.spelling.now c.args.face.now codes c.push.new.self c.loop-byte.byte c.text_of_byte.result c.in_ok-push.ensures.ok c.loop-byte.invariant.0 c.loop-byte.invariant.1 c.text_of_byte.ensures,
    )
