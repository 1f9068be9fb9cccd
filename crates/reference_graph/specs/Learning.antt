-- What is known of nodes, and how more becomes known.
use Rattle.std.specs.Prelude.{◌≡◌, ℕ, suc, ◌+◌, ◌<◌, ◌≤◌, nat_lt, ◌||◌, Bool, true, false, if◌then◌else◌, List, [], ◌∷◌, length, max, min, set, Option, Some, None, option_map, option_and_then, slice_get}
use Rattle.reference_graph.specs.declared.graph.Link.{Link}
use Rattle.reference_graph.specs.declared.graph.Link.TheVariants.{Field, To}
use Rattle.reference_graph.specs.declared.graph.Node.{Node}
use Rattle.reference_graph.specs.declared.extent.Extent.{Extent}
use Rattle.reference_graph.specs.declared.extent.TheConstants.{PLACE_LIMIT, DEPTH_LIMIT, EMPTY, ONE_FIELD}
use Rattle.reference_graph.specs.Graphs.{of_link, folded, goes_on, is_endless}
use Rattle.reference_graph.specs.Structures.{tags, depth, counted_tags, counted_depth, tags_of, depth_of}

-- the extent of a structure with this many places and this depth
abbrev pub extent_of : ℕ → ℕ → Extent
extent_of places deep = record { places = min places (PLACE_LIMIT + 1); depth = min deep (DEPTH_LIMIT + 1) }

-- The extent of no places.
abbrev pub empty : Extent
empty = EMPTY

-- The extent of two structures in order.
abbrev pub extent_of_both : Extent → Extent → Extent
extent_of_both a b = record { places = min (a.places + b.places) (PLACE_LIMIT + 1); depth = max a.depth b.depth }

-- The extent of a group with these entries.
abbrev pub with_count : Extent → Extent
with_count a = record { places = min (a.places + 1) (PLACE_LIMIT + 1); depth = min (a.depth + 1) (DEPTH_LIMIT + 1) }

-- The extent is over a limit.
abbrev pub is_over : Extent → Bool
is_over a = nat_lt PLACE_LIMIT a.places || nat_lt DEPTH_LIMIT a.depth

-- ---- what a table of extents gives

-- The extent of an entry, if it is known; that of no places if there is no entry.
abbrev pub entry_extent : Option (Option Extent) → Option Extent
entry_extent None = Some EMPTY
entry_extent (Some extent) = extent

-- the extent that a table gives for one link
abbrev pub looked_up : List (Option Extent) → Link → Option Extent
looked_up table (Field tag) = Some ONE_FIELD
looked_up table (To i) = entry_extent (slice_get table i)

-- the extent that a table gives for links after the extent so far
abbrev pub links_extent : List (Option Extent) → Extent → List Link → Option Extent
links_extent table all [] = Some all
links_extent table all (l ∷ ls) = option_and_then (λ extent. links_extent table (extent_of_both all extent) ls) (looked_up table l)

-- The extent of a node by that of its parts: one more place and level if it is a group.
abbrev pub counted_extent : Option ℕ → Extent → Extent
counted_extent None extent = extent
counted_extent (Some tag) extent = with_count extent

-- the extent that a table gives for a node
abbrev pub node_extent : List (Option Extent) → Node → Option Extent
node_extent table node = option_map (counted_extent node.count) (links_extent table EMPTY node.links)

-- ---- one step

-- What became known of the node with an index, if anything.
abbrev pub Learned : List Node → ℕ → List (Option Extent) → List (Option Extent) → Bool → Type 0
Learned graph i old new true =
    (extent : Extent) × (node : Node) × (slice_get old i ≡ Some None) × (slice_get graph i ≡ Some node)
    × (node_extent old node ≡ Some extent) × (new ≡ set old i (Some extent))
Learned graph i old new false = (new ≡ old) × ((node : Node) → slice_get graph i ≡ Some node → slice_get old i ≡ Some None → node_extent old node ≡ None)

-- nothing can become known of the first n nodes
abbrev pub IsStuck : List Node → List (Option Extent) → ℕ → Type 0
IsStuck graph table n = (i : ℕ) (node : Node) → i < n → slice_get graph i ≡ Some node → slice_get table i ≡ Some None → node_extent table node ≡ None

-- The number of known nodes.
abbrev pub known : List (Option Extent) → ℕ
known [] = 0
known (None ∷ fs) = known fs
known (Some extent ∷ fs) = suc (known fs)

-- the extent is that of a link from which no chain has more than k nodes
pub record IsSettled (k : ℕ) (graph : List Node) (link : Link) (extent : Extent) : Type 0 where
  pub ends : goes_on k graph link ≡ false
  pub places : extent.places ≡ min (length (of_link tags graph (folded tags k graph) link)) (PLACE_LIMIT + 1)
  pub depth : extent.depth ≡ min (of_link depth graph (folded depth k graph) link) (DEPTH_LIMIT + 1)

-- each known extent is right, and chains from known nodes have at most as many nodes as are known
abbrev pub IsSound : List Node → List (Option Extent) → Type 0
IsSound graph table = (i : ℕ) (extent : Extent) → slice_get table i ≡ Some (Some extent) → IsSettled (known table) graph (To i) extent

-- the new table is as long as the graph, and sound if the old one was
pub record Keeps (graph : List Node) (old new : List (Option Extent)) : Type 0 where
  pub long : length new ≡ length graph
  pub sound : IsSound graph old → IsSound graph new

-- the first n nodes were visited once; `learned`: more became known
pub record Passes (graph : List Node) (old : List (Option Extent)) (n : ℕ) (new : List (Option Extent)) (learned : Bool) : Type 0 where
  pub long : length new ≡ length graph
  pub sound : IsSound graph old → IsSound graph new
  pub grows : known old ≤ known new
  pub more : learned ≡ true → known old < known new
  pub same : learned ≡ false → new ≡ old
  pub stuck : learned ≡ false → IsStuck graph old n

-- What is known of a node in the end: its extent, if chains of references from it end.
abbrev pub final_extent : List Node → Node → Option Extent
final_extent graph node =
    if is_endless graph node.links then None
    else Some (extent_of (length (counted_tags node.count (tags_of graph node.links))) (counted_depth node.count (depth_of graph node.links)))

-- for each node, a table has what is known of it in the end
pub record HasExtents (graph : List Node) (table : List (Option Extent)) : Type 0 where
  pub long : length table ≡ length graph
  pub looked_up : (i : ℕ) (node : Node) → slice_get graph i ≡ Some node → slice_get table i ≡ Some (final_extent graph node)
