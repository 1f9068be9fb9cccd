use Rattle.std.proofs.Common.{◌≡◌, length}
use Rattle.reference_graph.specs.Expansion.{Structure}
use Rattle.structure_rows.specs.Rows.{rows_of}
use Rattle.level_places.specs.Places.{lent_rows, Gathers}
use Rattle.level_places.proofs.places.LevelPlaces.new.Given as goal

abbrev pub invariant-rows : goal.invariant-rows
invariant-rows l =
    (s : Structure) → l.fn.rows ≡ rows_of s → (more : Structure) × (l.left ≡ rows_of more) × Gathers s more l.fields l.groups (lent_rows l.entries.items)

abbrev pub decreases-rows : goal.decreases-rows
decreases-rows l = length l.left
