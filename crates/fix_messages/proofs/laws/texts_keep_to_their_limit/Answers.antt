use Rattle.fix_messages.proofs.Limits.{text_within}
use Rattle.fix_messages.proofs.laws.texts_keep_to_their_limit.Goals as goal

pub returns : goal.returns
returns c = λ lists limit kind head all none. text_within lists limit kind head all none
