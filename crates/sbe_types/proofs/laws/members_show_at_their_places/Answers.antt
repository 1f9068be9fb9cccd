use Rattle.sbe_types.proofs.PlaceLemmas.{width_is, shows_members}
use Rattle.sbe_types.proofs.laws.members_show_at_their_places.Goals as goal

pub returns-clause-shown : goal.returns-clause-shown
returns-clause-shown c = shows_members

pub returns-clause-width : goal.returns-clause-width
returns-clause-width c = width_is
