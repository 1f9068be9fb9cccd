use Rattle.std.proofs.Common.{refl}
use Rattle.json_rows.proofs.Computing.{computing}
use Rattle.json_rows.proofs.worked.names_of_worked_bytes.Goals as goal

pub returns : goal.returns
unfolding computing
returns c = record { char = refl; byte = refl; signed = refl; wide = refl; number = refl }
