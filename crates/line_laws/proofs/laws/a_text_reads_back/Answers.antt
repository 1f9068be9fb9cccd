use Rattle.line_laws.proofs.TextBack.{text_back}
use Rattle.line_laws.proofs.laws.a_text_reads_back.Goals as goal

pub returns : goal.returns
returns c = text_back
