use Rattle.block_laws.proofs.Blocks.{all_set}
use Rattle.block_laws.proofs.laws.a_full_block_is_canonical.Goals as goal

pub returns : goal.returns
returns c = all_set
