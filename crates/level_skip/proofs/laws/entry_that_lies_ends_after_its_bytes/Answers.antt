use Rattle.level_skip.proofs.Lying.{entry_ends}
use Rattle.level_skip.proofs.laws.entry_that_lies_ends_after_its_bytes.Goals as goal

pub returns : goal.returns
returns c mode level k entry before front rest placed lies = entry_ends mode level k entry before front rest placed lies
