use Rattle.std.proofs.Common.{refl}
use Rattle.json_rows.proofs.Computing.{computing}
use Rattle.json_rows.proofs.worked.pieces_of_worked_fields.Goals as goal

pub returns : goal.returns
unfolding computing
returns c = refl
