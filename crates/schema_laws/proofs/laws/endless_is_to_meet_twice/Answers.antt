use Rattle.schema_laws.proofs.Cycles.{meets, ends_not}
use Rattle.schema_laws.proofs.laws.endless_is_to_meet_twice.Goals as goal

pub returns : goal.returns
returns c = λ types k composite at. (meets types k composite, ends_not types k composite at)
