use Rattle.line_laws.proofs.MessageBack.{line_back}
use Rattle.line_laws.proofs.laws.a_line_reads_back.Goals as goal

pub returns : goal.returns
returns c = line_back
