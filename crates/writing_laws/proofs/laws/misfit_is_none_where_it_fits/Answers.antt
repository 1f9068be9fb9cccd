use Rattle.writing_laws.proofs.MessageMisfit.{none_fits, fits_none, none_counted}
use Rattle.writing_laws.proofs.laws.misfit_is_none_where_it_fits.Goals as goal

pub returns-clause-fits : goal.returns-clause-fits
returns-clause-fits c = λ schema placed writable m limit. (none_fits schema m limit placed writable, λ h. fits_none schema m limit placed writable h.0 h.1)

pub returns-clause-counted : goal.returns-clause-counted
returns-clause-counted c = λ schema placed writable m limit level at none body is. none_counted schema m limit placed writable level at none body is
