use Rattle.std.proofs.Common.{◌≡◌, take}
use Rattle.layout_tables.specs.Parts.{places_from}
use Rattle.layout_compile.proofs.DataParts.{counts_of}
use Rattle.layout_compile.proofs.numbers.places_of.Given as goal

abbrev pub invariant-loop-level : goal.invariant-loop-level
invariant-loop-level l = l.places.items ≡ places_from 0 (counts_of (take l.level l.levels))
