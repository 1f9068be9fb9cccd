use Rattle.schema_facts.proofs.WholeChecked.{schema_measured}
use Rattle.schema_facts.proofs.laws.checked_schemas_are_measured.Goals as goal

pub returns : goal.returns
returns c = schema_measured
