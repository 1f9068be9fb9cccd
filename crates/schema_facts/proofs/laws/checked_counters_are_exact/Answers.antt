use Rattle.schema_facts.proofs.WholeChecked.{counters_exact}
use Rattle.schema_facts.proofs.laws.checked_counters_are_exact.Goals as goal

pub returns : goal.returns
returns c = counters_exact
