use Rattle.std.proofs.Common.{refl}
use Rattle.flat_rows.proofs.worked.valid_bytes_of_worked_enums.Goals as goal

pub returns : goal.returns
returns c = record { char = refl; byte = refl; signed = refl; wide = refl; number = refl }
