use Rattle.printers.proofs.Printing.{then_prints}
use Rattle.tree_json.proofs.block.put_by_kinds.Goals as goal

pub returns : goal.returns
returns g c = then_prints c.put_data.ensures (then_prints c.put.ensures (then_prints c.put_fields.ensures c.put_opening.ensures))
