use Rattle.std.proofs.Common.{◌∙◌, ap, sym, arith}
use Rattle.command_words.specs.Words.{begins_a_number}
use Rattle.command_words.proofs.WordNumbers.{no_sign, parsed, not_parsed}
use Rattle.command_words.proofs.options.number_within.Goals as goal

pub returns-in_default : goal.returns-in_default
returns-in_default c =
    not_parsed _ _ c.args.word.now c.in_default.field-0 c.parse.result c.in_default.is c.parse.ensures.value.0
    (no_sign _ _ _ c.as_bytes-bytes.ensures.value c.begins_with_a_sign.ensures c.if-begins_with_a_sign.false)
    (ap begins_a_number (sym c.as_bytes-bytes.ensures.value) ∙ sym c.begins_a_number.ensures ∙ c.if-not-begins_a_number.false) (omega arith)

pub returns : goal.returns
returns c =
    parsed _ _ c.args.word.now c.in-Ok.number c.parse.result c.in-Ok.is c.parse.ensures.value.0
    (no_sign _ _ _ c.as_bytes-bytes.ensures.value c.begins_with_a_sign.ensures c.if-begins_with_a_sign.false)
    (ap begins_a_number (sym c.as_bytes-bytes.ensures.value) ∙ sym c.begins_a_number.ensures ∙ c.if-not-begins_a_number.false) c.if-number-least.false c.if-number-most.false
