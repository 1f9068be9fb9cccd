use Rattle.std.proofs.Common.{refl}
use Rattle.coverage_command.proofs.rows.no_path.Goals as goal

pub returns : goal.returns
returns c = refl
