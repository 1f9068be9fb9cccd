use Rattle.schema_facts.proofs.KindOrder.{members_in_order}
use Rattle.schema_facts.proofs.kinds.composites_are_in_order.Goals as goal

pub returns : goal.returns
returns c = λ types name accepted. members_in_order types accepted name
