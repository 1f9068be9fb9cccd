use Rattle.block_laws.proofs.Blocks.{pass_next}
use Rattle.block_laws.proofs.laws.a_constant_is_held.Goals as goal

pub returns : goal.returns
returns c = λ task front bytes i f v holds at there fixed none. pass_next task front bytes i f v holds at there fixed none
