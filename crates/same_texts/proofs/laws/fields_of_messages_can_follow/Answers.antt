use Rattle.same_texts.proofs.Ends.{own_follow}
use Rattle.same_texts.proofs.laws.fields_of_messages_can_follow.Goals as goal

pub returns : goal.returns
returns c = λ tags lists p t own pairs framed clear shown counted h app tagged small. own_follow lists tags pairs p t own framed clear shown counted h app tagged small
