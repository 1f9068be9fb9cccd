use Rattle.std.proofs.Common.{refl}
use Rattle.tree_json.proofs.Computing.{computing}
use Rattle.std.specs.Fmt.{digits}
use Rattle.build_command.proofs.rows.refused_lines.Goals as goal

pub returns : goal.returns
unfolding digits computing
returns c = record { no_message = refl; no_room = refl }
