use Rattle.bridge_terms.proofs.Cursor.{parts_step}
use Rattle.bridge_terms.proofs.laws.parts_come_one_after_another.Goals as goal

pub returns : goal.returns
returns c = parts_step
