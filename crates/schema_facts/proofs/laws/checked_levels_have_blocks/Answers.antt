use Rattle.schema_facts.proofs.WholeChecked.{levels_blocked}
use Rattle.schema_facts.proofs.laws.checked_levels_have_blocks.Goals as goal

pub returns : goal.returns
returns c = levels_blocked
