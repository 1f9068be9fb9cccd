use Rattle.std.proofs.Common.{refl}
use Rattle.clean_walk.proofs.Rows.{row_said}
use Rattle.clean_walk.proofs.blocks.past_value.Goals as goal

pub returns-clause-clean : goal.returns-clause-clean
returns-clause-clean c =
    row_said c.args.end c.args.row.now.place c.args.row.now.end c.args.row.now c.args.block.now c.requires.row refl refl c.if-begin-end.false (c.if-not-is_zero.ensures refl)
    (c.if-not-is_clean_kind.ensures refl)
