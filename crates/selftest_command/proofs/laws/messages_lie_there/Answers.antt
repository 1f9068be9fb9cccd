use Rattle.selftest_command.proofs.Summing.{lies_law}
use Rattle.selftest_command.proofs.laws.messages_lie_there.Goals as goal

pub returns : goal.returns
returns c = lies_law
