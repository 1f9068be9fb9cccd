use Rattle.line_values.proofs.KeyOrder.{read_order}
use Rattle.line_values.proofs.laws.keys_are_read_in_order.Goals as goal

pub returns : goal.returns
returns c = read_order
