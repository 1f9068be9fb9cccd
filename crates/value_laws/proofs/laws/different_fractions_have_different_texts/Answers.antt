use Rattle.value_laws.proofs.Reduced.{one_text}
use Rattle.value_laws.proofs.laws.different_fractions_have_different_texts.Goals as goal

pub returns : goal.returns
returns c = one_text
