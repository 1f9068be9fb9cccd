use Rattle.same_texts.proofs.Bytes.{all_known}
use Rattle.same_texts.proofs.laws.fields_are_known_by_their_bytes.Goals as goal

pub returns : goal.returns
returns c = λ tags lists own fields bytes pairs all body is. all_known tags lists pairs own all fields bytes body is
