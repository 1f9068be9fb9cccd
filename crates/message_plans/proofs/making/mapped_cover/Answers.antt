use Rattle.std.proofs.Common.{sym, ◌∙◌}
use Rattle.plan_rows.proofs.Ruling.{turned_ok}
use Rattle.message_plans.proofs.Covering.{with_path}
use Rattle.message_plans.proofs.making.mapped_cover.Goals as goal

pub returns-in-Some : goal.returns-in-Some
returns-in-Some g c = λ m s h k there. with_path m c.args.level.now s c.in-Some.path there (sym (c.in_ok-path.ensures m s h k) ∙ c.in-Some.is)

pub returns-in-None : goal.returns-in-None
returns-in-None g c =
    turned_ok c.rows_cover.result c.rows_cover.ensures (λ cover own m s h k there. own m s h k there (sym (c.in_ok-path.ensures m s h k) ∙ c.in-None.is))
