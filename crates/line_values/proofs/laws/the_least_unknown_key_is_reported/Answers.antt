use Rattle.line_values.proofs.KeyOrder.{least_told}
use Rattle.line_values.proofs.laws.the_least_unknown_key_is_reported.Goals as goal

pub returns : goal.returns
returns c = least_told
