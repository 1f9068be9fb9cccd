use Rattle.map_rules.proofs.Again.{found_by}
use Rattle.map_rules.proofs.code_sets.is_again_at.Goals as goal

pub returns : goal.returns
returns c = found_by c.args.table.now c.args.i c.is_again.result c.requires c.is_again.ensures
