use Rattle.exact_plans.proofs.ClearRows.{clear_rows}
use Rattle.exact_plans.proofs.clear.are_clear.Goals as goal

pub returns : goal.returns
returns g c = λ lists p fields groups parts are fits. clear_rows _ lists p c.args.rows.now fields groups parts are fits c.read_tags.ensures
