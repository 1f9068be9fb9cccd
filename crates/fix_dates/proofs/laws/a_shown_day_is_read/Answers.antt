use Rattle.std.proofs.Common.{sym, ◌∙◌}
use Rattle.fix_dates.specs.Days.{days}
use Rattle.fix_dates.proofs.KindFacts.{read_back_as}
use Rattle.fix_dates.proofs.OneText.{one_day_of_text}
use Rattle.fix_dates.proofs.laws.a_shown_day_is_read.Goals as goal

pub returns : goal.returns
returns c = λ n text answer. read_back_as days one_day_of_text (λ day a b x y. sym x ∙ y) text n answer
