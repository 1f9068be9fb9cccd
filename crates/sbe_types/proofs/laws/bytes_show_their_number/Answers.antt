use Rattle.sbe_types.proofs.Inverse.{number_of-bytes_of, bytes_of-width}
use Rattle.sbe_types.proofs.laws.bytes_show_their_number.Goals as goal

pub returns-clause-number : goal.returns-clause-number
returns-clause-number c = number_of-bytes_of

pub returns-clause-width : goal.returns-clause-width
returns-clause-width c = bytes_of-width
