use Rattle.std.proofs.Common.{refl}
use Rattle.flat_rows.proofs.worked.values_of_worked_fields.Goals as goal

pub returns : goal.returns
returns c = refl
