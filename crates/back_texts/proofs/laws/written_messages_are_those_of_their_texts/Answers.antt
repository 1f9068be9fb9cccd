use Rattle.back_texts.proofs.Written.{message_back}
use Rattle.back_texts.proofs.laws.written_messages_are_those_of_their_texts.Goals as goal

pub returns : goal.returns
returns c = λ schema by message text body is so. message_back schema by message text body is so c.kinds_in_order_are_writable.ensures
