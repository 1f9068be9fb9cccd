use Rattle.std.proofs.Common.{ap}
use Rattle.json_rows.proofs.Growing.{own_table}
use Rattle.tree_json.specs.Texts.{block_pieces}
use Rattle.tree_json.specs.Views.{block_head}
use Rattle.tree_json.proofs.HeadText.{table_text, texts_fit, head_by_table}
use Rattle.printers.proofs.Printing.{then_prints, reprinted}
use Rattle.tree_json.proofs.block.put_head_by.Goals as goal

pub put_rows-requires-clause-table : goal.put_rows-requires-clause-table
put_rows-requires-clause-table g c = own_table (block_pieces c.args.block.now) _ c.requires.fields

pub put_rows-requires-clause-fits : goal.put_rows-requires-clause-fits
put_rows-requires-clause-fits g c = texts_fit c.in-Some.values c.args.block.now c.in-Some.ensures _ c.requires.fields

pub returns-in-Some : goal.returns-in-Some
returns-in-Some g c =
    let s = c.args.block.now in
    let rows = c.put_rows.ensures c.in-Some.ensures.known _ (table_text c.in-Some.values s c.in-Some.ensures _ c.requires.fields) in
    reprinted (head_by_table s) (then_prints c.put_own_data.ensures rows)

pub returns-in-None : goal.returns-in-None
returns-in-None g c = reprinted (ap block_head c.again.ensures) c.put_by_kinds.ensures
