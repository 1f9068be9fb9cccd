use Rattle.schema_facts.proofs.WholeChecked.{levels_counted}
use Rattle.schema_facts.proofs.laws.checked_levels_have_few_parts.Goals as goal

pub returns : goal.returns
returns c = levels_counted
