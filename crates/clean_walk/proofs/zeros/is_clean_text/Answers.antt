use Rattle.std.proofs.Common.{sym, ◌∙◌}
use Rattle.clean_walk.proofs.AllZeros.{text_clean}
use Rattle.clean_walk.proofs.zeros.is_clean_text.Goals as goal

pub returns : goal.returns
returns c = λ yes. text_clean c.args.bytes.now (sym c.stays_zero.ensures ∙ yes)
