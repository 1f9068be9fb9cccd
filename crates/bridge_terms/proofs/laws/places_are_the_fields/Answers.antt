use Rattle.bridge_terms.proofs.Telling.{told_fields, written_unrefused}
use Rattle.bridge_terms.proofs.laws.places_are_the_fields.Goals as goal

pub returns-clause-told : goal.returns-clause-told
returns-clause-told c = λ p t h. told_fields p t h

pub returns-clause-only : goal.returns-clause-only
returns-clause-only c = λ p t fields h. written_unrefused p t fields h
