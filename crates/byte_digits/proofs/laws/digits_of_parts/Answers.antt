use Rattle.byte_digits.proofs.HighFirst as high
use Rattle.byte_digits.proofs.LowFirst as low
use Rattle.byte_digits.proofs.laws.digits_of_parts.Goals as goal

pub returns-clause-high : goal.returns-clause-high
returns-clause-high c = high.digits-joined

pub returns-clause-low : goal.returns-clause-low
returns-clause-low c = low.digits-joined
