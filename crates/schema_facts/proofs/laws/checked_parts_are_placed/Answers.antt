use Rattle.schema_facts.proofs.WholeChecked.{schema_placed}
use Rattle.schema_facts.proofs.laws.checked_parts_are_placed.Goals as goal

pub returns : goal.returns
returns c = schema_placed
