use Rattle.sbe_types.proofs.BadLemmas.{bad_or_shown}
use Rattle.sbe_types.proofs.laws.no_fault_shows_a_value.Goals as goal

pub returns : goal.returns
returns c order known leaf b long = bad_or_shown order leaf known b long
