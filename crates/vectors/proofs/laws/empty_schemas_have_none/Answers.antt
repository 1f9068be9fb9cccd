use Rattle.vectors.proofs.BlockParts.{none_generated}
use Rattle.vectors.proofs.laws.empty_schemas_have_none.Goals as goal

pub returns : goal.returns
returns c = none_generated
