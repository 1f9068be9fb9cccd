use Rattle.std.proofs.Common.{refl, arith}
use Rattle.json_rows.proofs.Growing.{row_added}
use Rattle.json_rows.proofs.make.add_value.Goals as goal

pub returns : goal.returns
returns c = row_added c.args.table.now _ _ c.args.kind.now c.args.at refl c.in_ok-push.ensures.items c.in_ok-value.ensures.value c.in_ok-value.ensures.row c.in_ok-codes.ensures refl (omega (arith, c.len-end.ensures)) refl
