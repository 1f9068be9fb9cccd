use Rattle.std.proofs.Common.{arith}
use Rattle.text_heads.proofs.Values.{value_before}
use Rattle.text_heads.proofs.scan.field_in.Goals as goal

pub returns-clause-value : goal.returns-clause-value
returns-clause-value c = value_before c.in_ok-value.value.now c.plain_length-many.result c.plain_length-many.ensures (omega arith) (omega arith)
