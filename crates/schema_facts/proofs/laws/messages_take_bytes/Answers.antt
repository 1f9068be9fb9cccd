use Rattle.schema_facts.proofs.WholeChecked.{messages_take}
use Rattle.schema_facts.proofs.laws.messages_take_bytes.Goals as goal

pub returns : goal.returns
returns c = messages_take
