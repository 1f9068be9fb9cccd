use Rattle.layout_names.proofs.OwnNames.{own_message}
use Rattle.layout_names.proofs.laws.messages_are_found_by_their_names.Goals as goal

pub returns : goal.returns
returns c = own_message
