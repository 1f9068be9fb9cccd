use Rattle.fix_dates.proofs.KindFacts.{fits_as}
use Rattle.fix_dates.proofs.laws.a_moment_fits_as_it_was.Goals as goal

pub returns : goal.returns
returns c = fits_as
