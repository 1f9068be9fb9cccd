use Rattle.line_laws.proofs.Printing.{text_is_read}
use Rattle.line_laws.proofs.laws.a_text_is_read.Goals as goal

pub returns : goal.returns
returns c = text_is_read
