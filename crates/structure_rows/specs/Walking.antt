-- What is left of a structure while its rows are made.
use Rattle.std.specs.Prelude.{◌≡◌, ℕ, ◌≤◌, false, List, [], ◌∷◌, ◌++◌, length, Option, Some, None}
use Rattle.std.specs.List.{list_any}
use Rattle.reference_graph.specs.declared.graph.Link.{Link}
use Rattle.reference_graph.specs.declared.graph.Node.{Node}
use Rattle.reference_graph.specs.declared.extent.TheConstants.{PLACE_LIMIT}
use Rattle.reference_graph.specs.Graphs.{Fold, of_link, folded, fold, is_endless}
use Rattle.reference_graph.specs.Walking.{steps}
use Rattle.structure_rows.specs.declared.row.PlaceRow.{PlaceRow}
use Rattle.structure_rows.specs.Rows.{field_row, group_row}

-- the rows of a node: its own row if it is a group, and the rows of its entries
abbrev pub counted_rows : Option ℕ → List PlaceRow → List PlaceRow
counted_rows None inner = inner
counted_rows (Some tag) inner = group_row tag (length inner) ∷ inner

-- the rows of a structure, as a fold
abbrev pub rows : Fold (List PlaceRow)
rows = record { empty = []; field = λ tag. field_row tag ∷ []; node = counted_rows; join = λ front back. front ++ back }

-- the rows of links
abbrev pub rows_in : List Node → List Link → List PlaceRow
rows_in = fold rows

-- the rows of what a link leads to
abbrev pub link_rows : List Node → Link → List PlaceRow
link_rows graph link = of_link rows graph (folded rows (length graph) graph) link

-- a row, if there is one, before others
abbrev pub with_row : Option PlaceRow → List PlaceRow → List PlaceRow
with_row None inner = inner
with_row (Some row) inner = row ∷ inner

-- the rows that are left; those of the last links come first
abbrev pub rows_left : List Node → List (List Link) → List PlaceRow
rows_left graph [] = []
rows_left graph (links ∷ more) = rows_left graph more ++ rows_in graph links

-- what a link leads to: its rows are this one, if there is one, and those of the links inside
pub record OpensRow (graph : List Node) (link : Link) (row : Option PlaceRow) (inner : List Link) : Type 0 where
  pub rows : link_rows graph link ≡ with_row row (rows_in graph inner)
  pub ends : is_endless graph inner ≡ false
  pub steps : fold steps graph inner ≤ of_link steps graph (folded steps (length graph) graph) link

-- The rows that were made and those that are left are all rows, which are within the limit, and chains of what is left
-- end.
pub record Makes (graph : List Node) (all made : List PlaceRow) (left : List (List Link)) : Type 0 where
  pub rest : made ++ rows_left graph left ≡ all
  pub short : length all ≤ PLACE_LIMIT
  pub ends : list_any (is_endless graph) left ≡ false
