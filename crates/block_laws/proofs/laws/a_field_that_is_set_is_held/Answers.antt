use Rattle.block_laws.proofs.Blocks.{set_next}
use Rattle.block_laws.proofs.laws.a_field_that_is_set_is_held.Goals as goal

pub returns : goal.returns
returns c = λ task front bytes new i place f v up holds at there stands written. set_next task front bytes i f v holds at there place new up stands written
