use Rattle.line_laws.proofs.Utf8.{text_is_utf8}
use Rattle.line_laws.proofs.laws.a_text_is_utf8.Goals as goal

pub returns : goal.returns
returns c = text_is_utf8
