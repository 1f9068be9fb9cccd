use Rattle.std.proofs.Common.{◌≡◌, ◌≤◌, ◌+◌, ◌*◌, drop}
use Rattle.layout_tables.specs.Least.{part_rows_least}
use Rattle.layout_tables.proofs.entries.lengths_least.Given as goal

abbrev pub invariant-loop-part : goal.invariant-loop-part
invariant-loop-part l = record {
  least : l.least + part_rows_least l.version (drop l.part-index l.parts) ≡ part_rows_least l.version l.parts;
  small : l.least ≤ l.part-index * 8;
}
