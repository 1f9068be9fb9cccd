use Rattle.std.proofs.Common.{drop, length}
use Rattle.std.specs.Prelude.{◌↔◌}
use Rattle.flat_rows.specs.Tables.{RowsFit}
use Rattle.flat_rows.proofs.judge.fits.Given as goal

abbrev pub invariant-loop-row : goal.invariant-loop-row
invariant-loop-row l = RowsFit (length l.block) (drop l.row-index l.table.rows.items) ↔ RowsFit (length l.block) l.table.rows.items
