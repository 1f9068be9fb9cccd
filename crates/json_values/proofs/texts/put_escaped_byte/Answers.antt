use Rattle.json_values.proofs.Plainly.{escapes_short, escapes_control, escapes_none}
use Rattle.json_values.proofs.texts.put_escaped_byte.Goals as goal

pub returns-then-letter-gt0 : goal.returns-then-letter-gt0
returns-then-letter-gt0 g c = escapes_short c.args.byte _ c.escape_letter-letter.ensures c.if-letter-gt0.true c.put.ensures

pub returns-then-byte-lt32 : goal.returns-then-byte-lt32
returns-then-byte-lt32 g c = escapes_control c.args.byte _ c.escape_letter-letter.ensures c.if-letter-gt0.false c.if-byte-lt32.true c.put_control.ensures

pub returns-else-byte-lt32 : goal.returns-else-byte-lt32
returns-else-byte-lt32 g c = escapes_none c.args.byte _ c.escape_letter-letter.ensures c.if-letter-gt0.false c.if-byte-lt32.false c.put-else-byte-lt32.ensures
