use Rattle.schema_facts.proofs.WholeChecked.{entries_counted}
use Rattle.schema_facts.proofs.laws.checked_entries_take_bytes.Goals as goal

pub returns : goal.returns
returns c = entries_counted
