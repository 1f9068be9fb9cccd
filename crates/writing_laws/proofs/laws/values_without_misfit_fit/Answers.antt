use Rattle.writing_laws.proofs.KindFits.{kind_fits}
use Rattle.writing_laws.proofs.KindGood.{fits_good}
use Rattle.writing_laws.proofs.laws.values_without_misfit_fit.Goals as goal

pub returns : goal.returns
returns c = λ order kind placed writable v. (kind_fits order kind placed writable v, fits_good order kind v)
