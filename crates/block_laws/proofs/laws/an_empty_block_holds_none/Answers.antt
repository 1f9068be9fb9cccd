use Rattle.block_laws.proofs.Empty.{begun}
use Rattle.block_laws.proofs.laws.an_empty_block_holds_none.Goals as goal

pub returns : goal.returns
returns c = begun
