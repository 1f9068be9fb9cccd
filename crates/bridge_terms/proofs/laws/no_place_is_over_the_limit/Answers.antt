use Rattle.bridge_terms.proofs.Limits.{under_limit, limit_under}
use Rattle.bridge_terms.proofs.laws.no_place_is_over_the_limit.Goals as goal

pub returns-clause-fits : goal.returns-clause-fits
returns-clause-fits c = λ size limit before places fits h. under_limit size limit before places fits h

pub returns-clause-only : goal.returns-clause-only
returns-clause-only c = λ size limit before places grows h. limit_under size limit grows before places h
