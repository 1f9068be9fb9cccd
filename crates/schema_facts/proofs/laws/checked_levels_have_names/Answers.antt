use Rattle.schema_facts.proofs.WholeChecked.{levels_named}
use Rattle.schema_facts.proofs.laws.checked_levels_have_names.Goals as goal

pub returns : goal.returns
returns c = levels_named
