use Rattle.bridge_terms.specs.Places.{places_of}
use Rattle.bridge_terms.proofs.Telling.{told_fields}
use Rattle.fix_messages.proofs.Texts.{none_refused}
use Rattle.fix_messages.proofs.laws.texts_have_the_fields_of_their_messages.Goals as goal

pub returns : goal.returns
returns c = λ lists limit kind head p t none. told_fields p t (none_refused lists limit kind head (places_of p t) none)
