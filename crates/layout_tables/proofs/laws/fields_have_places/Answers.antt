use Rattle.layout_tables.proofs.Told.{place_there}
use Rattle.layout_tables.proofs.laws.fields_have_places.Goals as goal

pub returns : goal.returns
returns c = place_there
