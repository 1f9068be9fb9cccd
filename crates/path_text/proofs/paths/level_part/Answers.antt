use Rattle.std.proofs.Common.{arith, ap, length}
use Rattle.path_text.proofs.PathParts.{data_inside}
use Rattle.path_text.proofs.paths.level_part.Goals as goal

pub returns : goal.returns
returns c = data_inside c.args.level.now c.args.i c.requires (omega (arith, ap length c.as_slice-fields.ensures)) (omega (arith, ap length c.as_slice-fields.ensures, ap length c.as_slice-groups.ensures))
