use Rattle.selftest_command.proofs.Summing.{none_added}
use Rattle.selftest_command.proofs.laws.no_message_adds_nothing.Goals as goal

pub returns : goal.returns
returns c = none_added
