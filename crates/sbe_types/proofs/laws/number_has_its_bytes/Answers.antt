use Rattle.sbe_types.proofs.Inverse.{bytes_of-number_of}
use Rattle.sbe_types.proofs.laws.number_has_its_bytes.Goals as goal

pub returns : goal.returns
returns c = bytes_of-number_of
