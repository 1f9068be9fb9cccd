use Rattle.std.proofs.Common.{◌≡◌, drop}
use Rattle.layout_tables.specs.Rowed.{rows_floor}
use Rattle.layout_tables.proofs.rows.floor_of.Given as goal

abbrev pub invariant-loop-row : goal.invariant-loop-row
invariant-loop-row l = rows_floor l.version l.floor (drop l.row-index l.fields) ≡ rows_floor l.version 0 l.fields
