-- The structure that references make: its places in order, with those inside groups.
use Rattle.std.specs.Prelude.{ℕ, suc, max, List, [], ◌∷◌, ◌++◌, Option, Some, None}
use Rattle.reference_graph.specs.declared.graph.Link.{Link}
use Rattle.reference_graph.specs.declared.graph.Node.{Node}
use Rattle.reference_graph.specs.Graphs.{Fold, fold}

-- places in order: none; a field and then more; or a group by its count, with the places of its entries, and then more
pub data Structure : Type 0 where
  ended : Structure
  plain : ℕ → Structure → Structure
  counted : ℕ → Structure → Structure → Structure

-- some places followed by others
abbrev pub followed_by : Structure → Structure → Structure
followed_by ended more = more
followed_by (plain tag rest) more = plain tag (followed_by rest more)
followed_by (counted tag inner rest) more = counted tag inner (followed_by rest more)

-- What is inside a node, as a group if it is one.
abbrev pub counted_structure : Option ℕ → Structure → Structure
counted_structure None inner = inner
counted_structure (Some tag) inner = counted tag inner ended

-- the places of a structure
abbrev pub places : Fold Structure
places = record { empty = ended; field = λ tag. plain tag ended; node = counted_structure; join = followed_by }

-- the structure of links
abbrev pub structure_of : List Node → List Link → Structure
structure_of = fold places

-- The tags of places in order.
abbrev pub structure_tags : Structure → List ℕ
structure_tags ended = []
structure_tags (plain tag rest) = tag ∷ structure_tags rest
structure_tags (counted tag inner rest) = tag ∷ (structure_tags inner ++ structure_tags rest)

-- How deeply the groups of places are nested.
abbrev pub structure_depth : Structure → ℕ
structure_depth ended = 0
structure_depth (plain tag rest) = structure_depth rest
structure_depth (counted tag inner rest) = max (suc (structure_depth inner)) (structure_depth rest)
