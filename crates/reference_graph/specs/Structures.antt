-- What the rules need to know of a structure.
use Rattle.std.specs.Prelude.{ℕ, suc, Option, Some, None, nat_lt, nat_eq, ◌||◌, Bool, false, List, [], ◌∷◌, ◌++◌, length, max}
use Rattle.std.specs.List.{list_any}
use Rattle.reference_graph.specs.declared.graph.Link.{Link}
use Rattle.reference_graph.specs.declared.graph.Node.{Node}
use Rattle.reference_graph.specs.declared.extent.TheConstants.{PLACE_LIMIT, DEPTH_LIMIT}
use Rattle.reference_graph.specs.Graphs.{Fold, fold}

-- The tag of a group's count, if there is one, and then the tags inside.
abbrev pub counted_tags : Option ℕ → List ℕ → List ℕ
counted_tags None inner = inner
counted_tags (Some tag) inner = tag ∷ inner

-- the tags of all places in order: that of a field, and that of a group's count before those of its entries
abbrev pub tags : Fold (List ℕ)
tags = record { empty = []; field = λ tag. tag ∷ []; node = counted_tags; join = λ front back. front ++ back }

-- What is inside a group is one level deeper.
abbrev pub counted_depth : Option ℕ → ℕ → ℕ
counted_depth None inner = inner
counted_depth (Some tag) inner = suc inner

-- how deeply groups are nested
abbrev pub depth : Fold ℕ
depth = record { empty = 0; field = λ tag. 0; node = counted_depth; join = λ front back. max front back }

-- the tags of a structure
abbrev pub tags_of : List Node → List Link → List ℕ
tags_of = fold tags

-- The depth of a structure.
abbrev pub depth_of : List Node → List Link → ℕ
depth_of = fold depth

-- one of the tags occurs twice
abbrev pub has_twice : List ℕ → Bool
has_twice [] = false
has_twice (t ∷ ts) = list_any (nat_eq t) ts || has_twice ts

-- a structure has some tag twice, counts included
abbrev pub is_ambiguous : List Node → List Link → Bool
is_ambiguous graph links = has_twice (tags_of graph links)

-- the tags of a node, beginning with that of a group's count
abbrev pub node_tags : List Node → Node → List ℕ
node_tags graph node = counted_tags node.count (tags_of graph node.links)

-- The depth of a node.
abbrev pub node_depth : List Node → Node → ℕ
node_depth graph node = counted_depth node.count (depth_of graph node.links)

-- the node has too many places, or groups nested too deeply
abbrev pub is_over_limit : List Node → Node → Bool
is_over_limit graph node = nat_lt PLACE_LIMIT (length (node_tags graph node)) || nat_lt DEPTH_LIMIT (node_depth graph node)
