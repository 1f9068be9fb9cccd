use Rattle.byte_digits.proofs.HighFirst as high
use Rattle.byte_digits.proofs.LowFirst as low
use Rattle.byte_digits.proofs.laws.number_of_digits.Goals as goal

pub returns-clause-high : goal.returns-clause-high
returns-clause-high c = high.number-digits

pub returns-clause-low : goal.returns-clause-low
returns-clause-low c = low.number-digits
