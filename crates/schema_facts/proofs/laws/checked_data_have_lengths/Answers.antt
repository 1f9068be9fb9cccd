use Rattle.schema_facts.proofs.WholeChecked.{data_counted}
use Rattle.schema_facts.proofs.laws.checked_data_have_lengths.Goals as goal

pub returns : goal.returns
returns c = data_counted
