use Rattle.std.proofs.Common.{refl}
use Rattle.json_rows.proofs.Computing.{computing}
use Rattle.json_rows.proofs.worked.no_fields_are_a_bracket.Goals as goal

pub returns : goal.returns
unfolding computing
returns c = refl
