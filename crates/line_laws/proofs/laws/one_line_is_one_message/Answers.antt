use Rattle.line_laws.proofs.MessageBack.{lines_differ}
use Rattle.line_laws.proofs.laws.one_line_is_one_message.Goals as goal

pub returns : goal.returns
returns c = lines_differ
