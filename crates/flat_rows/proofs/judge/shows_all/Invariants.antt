use Rattle.std.proofs.Common.{drop, length}
use Rattle.std.specs.List.{AllByRecursion}
use Rattle.flat_rows.specs.Tables.{IsRow, RowsFit}
use Rattle.flat_rows.proofs.RowsJudged.{RowsShow}
use Rattle.flat_rows.proofs.judge.shows_all.Given as goal

abbrev pub invariant-loop-row : goal.invariant-loop-row
invariant-loop-row l = record {
  are : AllByRecursion IsRow (drop l.row-index l.table.rows.items);
  fit : RowsFit (length l.block) (drop l.row-index l.table.rows.items);
  show : RowsShow l.known l.block (drop l.row-index l.table.rows.items) → RowsShow l.known l.block l.table.rows.items;
}
