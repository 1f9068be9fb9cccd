-- The reduced form of decimals. Own profile.
use Rattle.fix_values.specs.declared.rule.Dec.{Dec}
use Rattle.fix_values.specs.Decimals.{dec, IsReduced, SameFraction}
use Rattle.fix_values.specs.Numerals.{signed}
use Rattle.reduced_decimals.specs.declared.reduced.Reduced.{Reduced}

-- the decimal of a form
abbrev pub form_of : Reduced → Dec
form_of d = dec (signed d.negative d.size) d.exponent

-- a form is reduced, and the same fraction as a decimal
pub record IsFormOf (d : Reduced) (own : Dec) : Type 0 where
  pub reduced : IsReduced (form_of d)
  pub same : SameFraction (form_of d) own
