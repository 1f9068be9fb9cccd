use Rattle.schema_facts.proofs.WholeChecked.{kinds_in_order}
use Rattle.schema_facts.proofs.laws.checked_kinds_are_in_order.Goals as goal

pub returns : goal.returns
returns c = kinds_in_order
