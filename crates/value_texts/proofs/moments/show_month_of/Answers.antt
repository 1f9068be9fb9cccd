use Rattle.std.proofs.Common.{subst, sym}
use Rattle.fix_values.specs.Values.{Leaves}
use Rattle.bridge_rules.specs.Texts.{month_text}
use Rattle.value_texts.proofs.Dates.{month_left}
use Rattle.value_texts.proofs.moments.show_month_of.Goals as goal

pub returns-in-Some : goal.returns-in-Some
returns-in-Some c =
    subst (λ m. Leaves c.show_month.result c.show_month.new.out (month_text m)) (sym c.in-Some.is) (month_left c.in-Some.month c.show_month.result c.show_month.new.out c.show_month.ensures)
