use Rattle.std.proofs.Common.{ap, ◌++◌}
use Rattle.serde_json.specs.Written.{comma_if}
use Rattle.sbe_types.specs.declared.message.Block.{out-Block}
use Rattle.tree_json.proofs.Blocks.{front_closed}
use Rattle.tree_json.proofs.HeadText.{bytes_text, head_by_table, no_data, no_groups, front_is}
use Rattle.printers.proofs.Printing.{then_prints, reprinted, prints_nothing}
use Rattle.tree_json.proofs.block.put_flat_entry.Goals as goal

pub returns : goal.returns
returns g c = λ b s same is texts groups parts.
    let none = reprinted (no_data s.parts (out-Block s.block).parts parts) prints_nothing in
    let t = c.args.texts.now in
    let rows = c.put_rows.ensures is.known _ (bytes_text b s is t texts c.args.block.now same) in
    let head = reprinted (head_by_table s) (then_prints none rows) in
    let front = reprinted (front_is s) (then_prints head (reprinted (no_groups s.groups (out-Block s.block).groups groups) prints_nothing)) in
    reprinted (ap (λ r. comma_if c.args.later ++ r) (front_closed s)) (then_prints c.put_comma.ensures (then_prints front c.put.ensures))
