use Rattle.byte_digits.proofs.LowFirst as low
use Rattle.byte_digits.proofs.laws.orders_are_mirrored.Goals as goal

pub returns-clause-number : goal.returns-clause-number
returns-clause-number c = low.number-mirrored

pub returns-clause-digits : goal.returns-clause-digits
returns-clause-digits c = low.digits-mirrored
