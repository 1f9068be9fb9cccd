-- The tags of the header: those that frame a message, and all those in the components named StandardHeader.
use Rattle.std.specs.Prelude.{◌≡◌, ℕ, ◌+◌, Bool, if◌then◌else◌, List, [], ◌∷◌, ◌++◌, codes, length, Ok}
use Rattle.std.specs.Str.{bytes_eq}
use Rattle.reference_graph.specs.declared.graph.Link.{Link}
use Rattle.reference_graph.specs.declared.graph.Link.TheVariants.{Field, To}
use Rattle.reference_graph.specs.declared.graph.Node.{Node}
use Rattle.structure_tags.specs.Reaching.{HasTags}
use Rattle.map_types.specs.Trees.{Members, members_of}
use Rattle.map_types.specs.declared.tree.ComponentEl.{ComponentEl}
use Rattle.map_types.specs.declared.tree.FieldEl.{FieldEl}
use Rattle.map_types.specs.declared.tree.Repository.{Repository}
use Rattle.map_links.specs.Links.{Linked, linked_of, ids_of, nodes_of}
use Rattle.map_rules.specs.Rules.{verdict}

-- The component is named StandardHeader.
abbrev pub is_header : ComponentEl → Bool
is_header c = bytes_eq c.name (codes "StandardHeader")

-- links to the components named StandardHeader among these, the first of which has index i
abbrev pub header_places : ℕ → List ComponentEl → List Link
header_places i [] = []
header_places i (c ∷ cs) = if is_header c then To i ∷ header_places (i + 1) cs else header_places (i + 1) cs

-- BeginString, BodyLength, MsgType and CheckSum
abbrev pub framing_links : List Link
framing_links = Field 8 ∷ (Field 9 ∷ (Field 35 ∷ (Field 10 ∷ [])))

-- the fields that frame a message, and the components named StandardHeader
abbrev pub header_links : List ComponentEl → List Link
header_links components = framing_links ++ header_places 0 components

-- Components, groups and messages as one graph.
abbrev pub graph_of : List FieldEl → Linked → List Node
graph_of fields m = nodes_of (length m.components) (ids_of fields m) m

-- by these fields and members, a set has exactly the tags of the header
abbrev pub HasHeadersOf : List FieldEl → Linked → List ℕ → Type 0
HasHeadersOf fields m tags = HasTags (graph_of fields m) (header_links m.components) tags

-- the same for all members
abbrev pub HasHeaderTags : Members → List ℕ → Type 0
HasHeaderTags m tags = HasHeadersOf m.fields (linked_of m) tags

-- the members of a repository keep their rules
abbrev pub IsKept : Repository → Type 0
IsKept repository = verdict (members_of repository) ≡ Ok tt
