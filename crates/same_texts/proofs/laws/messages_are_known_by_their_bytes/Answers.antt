use Rattle.same_texts.proofs.Ends.{message_known}
use Rattle.same_texts.proofs.laws.messages_are_known_by_their_bytes.Goals as goal

pub returns : goal.returns
returns c = λ tags lists p t own fields bytes pairs clear shown counted h app body is short. message_known lists tags pairs p t own fields bytes clear shown counted h app body is short
