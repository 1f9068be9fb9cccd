use Rattle.value_laws.proofs.ReadBack.{char_back}
use Rattle.value_laws.proofs.laws.characters_read_back.Goals as goal

pub returns : goal.returns
returns c = char_back
