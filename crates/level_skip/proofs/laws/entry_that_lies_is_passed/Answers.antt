use Rattle.level_skip.proofs.Lying.{entry_passes}
use Rattle.level_skip.proofs.laws.entry_that_lies_is_passed.Goals as goal

pub returns : goal.returns
returns c mode level k entry front rest placed lies = entry_passes mode level k entry front rest placed lies
