use Rattle.clean_bodies.proofs.CleanLevels.{tail_whole}
use Rattle.clean_bodies.proofs.laws.a_tail_is_whole_where_its_parts_are.Goals as goal

pub returns : goal.returns
returns c = tail_whole
