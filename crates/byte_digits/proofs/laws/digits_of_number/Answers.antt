use Rattle.std.proofs.Common.{length, refl}
use Rattle.byte_digits.proofs.HighFirst as high
use Rattle.byte_digits.proofs.LowFirst as low
use Rattle.byte_digits.proofs.laws.digits_of_number.Goals as goal

pub returns-clause-high : goal.returns-clause-high
returns-clause-high c = λ bytes. high.digits-number (length bytes) bytes refl

pub returns-clause-low : goal.returns-clause-low
returns-clause-low c = λ bytes. low.digits-number (length bytes) bytes refl
