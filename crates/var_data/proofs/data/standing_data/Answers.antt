use Rattle.var_data.proofs.DataRows.{stands_told}
use Rattle.var_data.proofs.data.standing_data.Goals as goal

pub returns : goal.returns
returns c = stands_told c.args.order c.args.leaf.now c.args.bytes.now c.args.at c.width-wide.result c.small_number-size.result c.width-wide.ensures.value c.small_number-size.ensures c.requires.stands
