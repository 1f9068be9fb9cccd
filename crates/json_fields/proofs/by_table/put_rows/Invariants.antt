use Rattle.std.proofs.Common.{length, drop, map}
use Rattle.printers.specs.Prints.{Prints}
use Rattle.json_rows.specs.Tables.{slots_of, value_of, AreTextRows, TextsFit}
use Rattle.json_fields.proofs.RowsText.{Goes}
use Rattle.json_fields.proofs.by_table.put_rows.Given as goal

abbrev pub invariant-loop-row : goal.invariant-loop-row
invariant-loop-row g l =
    record {
      are : AreTextRows (length l.table.bytes.items) (map value_of (drop l.row-index l.table.rows.items)) (drop l.row-index l.table.rows.items);
      fit : TextsFit (length l.block) (drop l.row-index l.table.rows.items);
      goes : Goes (slots_of l.table.bytes.items (map value_of l.table.rows.items) l.table.rows.items)
          (slots_of l.table.bytes.items (map value_of (drop l.row-index l.table.rows.items)) (drop l.row-index l.table.rows.items)) l.block
          (Prints g.O.Sink.state l.initial.printer l.printer);
    }
