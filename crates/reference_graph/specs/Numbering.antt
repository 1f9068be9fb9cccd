-- The numbers of tags, by which a tag can be a bit of a word.
use Rattle.std.specs.Prelude.{ℕ, ◌+◌, nat_eq, nat_lt, if◌then◌else◌, position, List, map, Option, Some, None, option_map}
use Rattle.reference_graph.specs.declared.graph.Link.{Link}
use Rattle.reference_graph.specs.declared.graph.Link.TheVariants.{Field, To}
use Rattle.reference_graph.specs.declared.graph.Node.{Node}

-- the number of the tag with index i: the index counted from 1, if it is at most `last`, else 0
abbrev pub number_at : ℕ → ℕ → ℕ
number_at last i = if nat_lt i last then i + 1 else 0

-- the number of a tag, by its index
abbrev pub number_by : ℕ → Option ℕ → ℕ
number_by last None = 0
number_by last (Some i) = number_at last i

-- the number of a tag among these. The tags after the last number share 0, and so does any other tag.
abbrev pub number_of : ℕ → List ℕ → ℕ → ℕ
number_of last all tag = number_by last (position (nat_eq tag) all)

-- a link with the number of its tag instead of the tag
abbrev pub numbered_link : ℕ → List ℕ → Link → Link
numbered_link last all (Field tag) = Field (number_of last all tag)
numbered_link last all (To i) = To i

-- the same for a node
abbrev pub numbered_node : ℕ → List ℕ → Node → Node
numbered_node last all node = record { count = option_map (number_of last all) node.count; links = map (numbered_link last all) node.links }
