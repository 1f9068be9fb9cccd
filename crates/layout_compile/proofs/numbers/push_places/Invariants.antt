use Rattle.std.proofs.Common.{◌≡◌, ◌++◌}
use Rattle.layout_tables.specs.Parts.{places_in}
use Rattle.layout_compile.proofs.numbers.push_places.Given as goal

abbrev pub invariant-loop-part : goal.invariant-loop-part
invariant-loop-part l = l.places.items ≡ l.fn.places.items ++ places_in l.level 0 l.part
