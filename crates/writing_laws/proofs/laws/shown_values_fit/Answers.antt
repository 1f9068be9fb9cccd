use Rattle.writing_laws.proofs.KindBack.{shown_fits}
use Rattle.writing_laws.proofs.laws.shown_values_fit.Goals as goal

pub returns : goal.returns
returns c = shown_fits
