use Rattle.std.proofs.Common.{refl}
use Rattle.json_rows.proofs.Growing.{bytes_added}
use Rattle.json_rows.proofs.make.add_bytes.Goals as goal

pub returns : goal.returns
returns c = bytes_added c.args.table.now _ c.args.bytes.now c.in_ok-extend_from_slice.ensures.items refl refl
