use Rattle.std.proofs.Common.{◌≡◌, take}
use Rattle.std.specs.Prelude.{map}
use Rattle.layout_tables.specs.Rowed.{part_row}
use Rattle.layout_compile.proofs.tables.part_rows.Given as goal

abbrev pub invariant-loop-part : goal.invariant-loop-part
invariant-loop-part l = l.rows.items ≡ map part_row (take l.part-index l.parts)
