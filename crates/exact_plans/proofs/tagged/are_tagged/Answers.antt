use Rattle.exact_plans.proofs.TaggedRows.{tagged_rows}
use Rattle.exact_plans.proofs.tagged.are_tagged.Goals as goal

pub returns : goal.returns
returns g c = λ lists p are tag among. tagged_rows _ lists p c.args.rows.now are c.read_leads.ensures tag among
