use Rattle.byte_digits.proofs.HighFirst as high
use Rattle.byte_digits.proofs.LowFirst as low
use Rattle.byte_digits.proofs.laws.digits_are_bytes.Goals as goal

pub returns-clause-high : goal.returns-clause-high
returns-clause-high c = λ k n. (high.length-digits k n, high.IsBytes-digits k n)

pub returns-clause-low : goal.returns-clause-low
returns-clause-low c = λ k n. (low.length-digits k n, low.IsBytes-digits k n)
