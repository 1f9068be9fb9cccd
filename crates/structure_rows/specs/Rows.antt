-- The places of a structure as rows: each group is followed by the rows of its entries.
use Rattle.std.specs.Prelude.{ℕ, List, [], ◌∷◌, ◌++◌, length, Some, None}
use Rattle.reference_graph.specs.Expansion.{Structure, ended, plain, counted}
use Rattle.structure_rows.specs.declared.row.PlaceRow.{PlaceRow}

-- a field
abbrev pub field_row : ℕ → PlaceRow
field_row tag = record { tag = tag; entries = None }

-- a group, whose entries have n rows
abbrev pub group_row : ℕ → ℕ → PlaceRow
group_row tag n = record { tag = tag; entries = Some n }

-- a group and the rows of its entries, and then more
abbrev pub group_before : ℕ → List PlaceRow → List PlaceRow → List PlaceRow
group_before tag inner rest = group_row tag (length inner) ∷ (inner ++ rest)

-- the rows of a structure
abbrev pub rows_of : Structure → List PlaceRow
rows_of ended = []
rows_of (plain tag rest) = field_row tag ∷ rows_of rest
rows_of (counted tag inner rest) = group_before tag (rows_of inner) (rows_of rest)
