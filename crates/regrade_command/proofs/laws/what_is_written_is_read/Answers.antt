use Rattle.regrade_command.proofs.Holding.{holds}
use Rattle.regrade_command.proofs.laws.what_is_written_is_read.Goals as goal

pub returns : goal.returns
returns c = λ on number item reply dropped filled good h told. holds on number item reply dropped filled told good h
