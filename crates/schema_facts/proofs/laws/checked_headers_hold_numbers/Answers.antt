use Rattle.schema_facts.proofs.WholeChecked.{numbers_held}
use Rattle.schema_facts.proofs.laws.checked_headers_hold_numbers.Goals as goal

pub returns : goal.returns
returns c = numbers_held
