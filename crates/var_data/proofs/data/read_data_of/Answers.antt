use Rattle.std.proofs.Common.{arith}
use Rattle.var_data.proofs.DataRows.{range_is}
use Rattle.var_data.proofs.data.read_data_of.Goals as goal

pub returns : goal.returns
returns c =
    range_is c.args.order c.args.leaf.now c.args.bytes.now c.args.at c.width-wide.result c.small_number-size.result _ c.width-wide.ensures.value (omega arith)
    c.small_number-size.ensures c.range_behind.ensures
