use Rattle.schema_facts.proofs.WholeChecked.{levels_since}
use Rattle.schema_facts.proofs.laws.checked_levels_have_sinces.Goals as goal

pub returns : goal.returns
returns c = levels_since
