use Rattle.std.proofs.Common.{refl}
use Rattle.flat_rows.proofs.worked.no_fields_have_no_values.Goals as goal

pub returns : goal.returns
returns c = refl
