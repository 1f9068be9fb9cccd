use Rattle.sbe_wire.proofs.PlaceLemmas.{each_from, each_back}
use Rattle.sbe_wire.proofs.laws.fields_lie_at_their_places.Goals as goal

pub returns : goal.returns
returns c = λ mode fields values b. (each_from mode b 0 fields values, each_back mode b 0 fields values)
