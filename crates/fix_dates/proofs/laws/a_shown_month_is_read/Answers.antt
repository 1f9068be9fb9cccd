use Rattle.std.proofs.Common.{sym, ◌∙◌}
use Rattle.fix_dates.specs.Months.{months}
use Rattle.fix_dates.proofs.KindFacts.{read_back_as}
use Rattle.fix_dates.proofs.OneText.{one_month_of_text}
use Rattle.fix_dates.proofs.laws.a_shown_month_is_read.Goals as goal

pub returns : goal.returns
returns c = λ value text answer. read_back_as months one_month_of_text (λ month a b x y. sym x ∙ y) text value answer
