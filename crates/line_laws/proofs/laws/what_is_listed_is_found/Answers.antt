use Rattle.line_laws.proofs.Finding.{listed_is_found}
use Rattle.line_laws.proofs.laws.what_is_listed_is_found.Goals as goal

pub returns : goal.returns
returns c = listed_is_found
