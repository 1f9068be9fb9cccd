use Rattle.line_laws.proofs.KindBack.{kind_good}
use Rattle.line_laws.proofs.laws.a_value_reads_back.Goals as goal

pub returns : goal.returns
returns c = λ order kind v h bytes fits. (kind_good order 1 kind h.parts v fits.0 fits.0 fits.1 bytes fits.3).read
