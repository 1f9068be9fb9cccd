use Rattle.schema_facts.proofs.WholeChecked.{messages_differ}
use Rattle.schema_facts.proofs.laws.checked_messages_differ.Goals as goal

pub returns : goal.returns
returns c = messages_differ
