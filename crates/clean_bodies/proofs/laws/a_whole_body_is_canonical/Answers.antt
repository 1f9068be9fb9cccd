use Rattle.clean_bodies.proofs.CleanMessages.{message_clean}
use Rattle.clean_bodies.proofs.laws.a_whole_body_is_canonical.Goals as goal

pub returns : goal.returns
returns c = message_clean
