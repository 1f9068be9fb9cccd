use Rattle.std.proofs.Common.{◌≡◌, drop}
use Rattle.layout_tables.specs.Rowed.{newest_from}
use Rattle.layout_compile.proofs.tables.newest_of.Given as goal

abbrev pub invariant-loop-field : goal.invariant-loop-field
invariant-loop-field l = newest_from l.newest (drop l.field-index l.fields) ≡ newest_from 0 l.fields
