use Rattle.schema_facts.proofs.KindOrder.{field_in_order, judged_in_order}
use Rattle.schema_facts.proofs.kinds.kinds_of_fields_are_in_order.Goals as goal

pub returns-clause-judged : goal.returns-clause-judged
returns-clause-judged c = judged_in_order

pub returns-clause-rules : goal.returns-clause-rules
returns-clause-rules c = λ types reached f accepted h. field_in_order types accepted reached f h
