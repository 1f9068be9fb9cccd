use Rattle.value_laws.proofs.Enough.{has_text}
use Rattle.value_laws.proofs.laws.thirty_eight_digits_are_enough.Goals as goal

pub returns-clause-shown : goal.returns-clause-shown
returns-clause-shown c = has_text
