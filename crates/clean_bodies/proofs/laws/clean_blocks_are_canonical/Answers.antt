use Rattle.clean_bodies.proofs.CleanFields.{block_clean}
use Rattle.clean_bodies.proofs.laws.clean_blocks_are_canonical.Goals as goal

pub returns : goal.returns
returns c = block_clean
