use Rattle.bridge_terms.specs.MessageFields.{with_lengths}
use Rattle.same_texts.proofs.Following.{all_follow, alone_follow}
use Rattle.same_texts.proofs.laws.fields_can_follow_one_another.Goals as goal

pub returns : goal.returns
returns c = λ tags lists given own pairs each alone can. alone_follow tags lists pairs given (with_lengths lists own) alone (all_follow tags lists pairs each own can)
