use Rattle.schema_facts.proofs.WholeChecked.{groups_shallow}
use Rattle.schema_facts.proofs.laws.checked_groups_are_shallow.Goals as goal

pub returns : goal.returns
returns c = groups_shallow
