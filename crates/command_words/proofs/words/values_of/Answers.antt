use Rattle.command_words.proofs.WordOptions.{values_ended}
use Rattle.command_words.proofs.words.values_of.Goals as goal

pub returns : goal.returns
returns c = values_ended _ _ _ _ c.in_default.len_below c.loop-left.invariant
