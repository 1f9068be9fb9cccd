use Rattle.writing_laws.proofs.MessageBack.{lies_fits}
use Rattle.writing_laws.proofs.laws.what_lies_fits.Goals as goal

pub returns : goal.returns
returns c = lies_fits
