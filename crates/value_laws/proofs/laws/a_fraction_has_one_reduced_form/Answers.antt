use Rattle.value_laws.proofs.Fractions.{one_form}
use Rattle.value_laws.proofs.laws.a_fraction_has_one_reduced_form.Goals as goal

pub returns : goal.returns
returns c = one_form
