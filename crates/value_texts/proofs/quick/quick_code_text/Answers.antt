use Rattle.message_walk.proofs.Values.{plain_value}
use Rattle.value_texts.proofs.QuickTexts.{code_told}
use Rattle.value_texts.proofs.quick.quick_code_text.Goals as goal

pub returns-then-is_plain-clause-value : goal.returns-then-is_plain-clause-value
returns-then-is_plain-clause-value c = λ room.
    plain_value c.as_slice-text.result.now (c.is_plain.ensures.some c.if-is_plain.true) (c.is_plain.ensures.plain c.if-is_plain.true)

pub returns-then-is_plain-clause-told : goal.returns-then-is_plain-clause-told
returns-then-is_plain-clause-told c = λ room.
    code_told c.args.code.now c.as_slice-text.result.now c.as_slice-text.ensures (c.is_plain.ensures.plain c.if-is_plain.true)
