use Rattle.schema_facts.proofs.WholeChecked.{schema_checked}
use Rattle.schema_facts.proofs.laws.checked_schemas_are_checked.Goals as goal

pub returns : goal.returns
returns c = schema_checked
