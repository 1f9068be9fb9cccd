use Rattle.bridge_mapping.proofs.Lawful.{kept_distinct}
use Rattle.bridge_mapping.proofs.laws.structures_of_messages_are_distinct.Goals as goal

pub returns : goal.returns
returns c = kept_distinct
