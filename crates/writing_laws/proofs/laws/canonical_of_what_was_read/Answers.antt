use Rattle.writing_laws.proofs.ReadAgain.{read_written, written_again}
use Rattle.writing_laws.proofs.laws.canonical_of_what_was_read.Goals as goal

pub returns-clause-again : goal.returns-clause-again
returns-clause-again c = written_again

pub returns-clause-same : goal.returns-clause-same
returns-clause-same c = read_written
