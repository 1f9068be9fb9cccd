use Rattle.std.proofs.Common.{refl}
use Rattle.coverage_command.proofs.rows.a_path.Goals as goal

pub returns : goal.returns
returns c = refl
