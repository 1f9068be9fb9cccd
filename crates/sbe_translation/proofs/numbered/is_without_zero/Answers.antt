use Rattle.std.proofs.Common.{sym, ◌∙◌}
use Rattle.field_judge.proofs.Finding.{not_there}
use Rattle.sbe_translation.proofs.numbered.is_without_zero.Goals as goal

pub returns-in-None : goal.returns-in-None
returns-in-None c = λ h. not_there 0 c.args.level.now.tags 0 (sym c.place.ensures.is ∙ c.in-None.is)
