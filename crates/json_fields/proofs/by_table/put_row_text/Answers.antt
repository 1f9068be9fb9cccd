use Rattle.json_fields.proofs.RowsText.{text_kept}
use Rattle.json_fields.proofs.by_table.put_row_text.Goals as goal

pub returns-in-Leaf : goal.returns-in-Leaf
returns-in-Leaf g c =
    text_kept c.args.row.now.kind c.args.row.now.quick c.in-Leaf.leaf c.args.bytes.now c.requires.text c.in-Leaf.is c.put_text_in.ensures
