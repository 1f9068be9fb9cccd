-- What the tables of a mapping contain.
use Rattle.std.specs.Prelude.{◌≡◌, ℕ, ◌<◌, ◌≤◌, ◌-◌, suc, false, List, [], ◌∷◌, map, length, Option, Some, None, slice_get}
use Rattle.reference_graph.specs.declared.graph.Node.{Node}
use Rattle.reference_graph.specs.Graphs.{links_at, Ends}
use Rattle.reference_graph.specs.Structures.{is_over_limit}
use Rattle.reference_graph.specs.Expansion.{Structure, structure_of}
use Rattle.map_types.specs.declared.tree.CodeSetEl.{CodeSetEl}
use Rattle.map_types.specs.declared.tree.FieldEl.{FieldEl}
use Rattle.map_links.specs.Links.{Linked}
use Rattle.orchestra_map.specs.Headers.{graph_of}
use Rattle.bridge_rules.specs.Datatypes.{Datatype, unbridged}
use Rattle.bridge_terms.specs.Parts.{TagLists}
use Rattle.bridge_terms.specs.Plans.{is_in}
use Rattle.bridge_table.specs.declared.datatype.Datatype.{Datatype as FieldDatatype}
use Rattle.bridge_table.specs.Codes.{datatype_of_row}
use Rattle.field_types.specs.FieldTypes.{set_type}
use Rattle.bridge_mapping.specs.declared.datatypes.FieldType.{FieldType}
use Rattle.bridge_mapping.specs.declared.datatypes.FieldType.TheVariants as by
use Rattle.bridge_mapping.specs.declared.datatypes.TypedField.{TypedField}

-- ---- datatypes

-- a datatype, if it was found, else an unbridged one
abbrev pub type_or : Option FieldDatatype → Datatype
type_or None = unbridged
type_or (Some d) = datatype_of_row d

-- the datatype of a field, by the datatypes of code sets
abbrev pub type_in : List FieldDatatype → FieldType → Datatype
type_in types (by.CodeSet i) = type_or (slice_get types i)
type_in types (by.Standard d) = datatype_of_row d

-- the tag of a field and its datatype
abbrev pub typed : List FieldDatatype → TypedField → ℕ × Datatype
typed types f = (f.tag, type_in types f.datatype)

-- the names of code sets and the datatypes of their fields
pub record AreSets (sets : List CodeSetEl) (names : List (List ℕ)) (types : List FieldDatatype) : Type 0 where
  pub named : names ≡ map (λ (s : CodeSetEl). s.name) sets
  pub meant : map datatype_of_row types ≡ map set_type sets

-- ---- tags

-- both have the same header tags, in any order, and the same length fields with their data fields
pub record HaveSameTags (one other : TagLists) : Type 0 where
  pub header : (tag : ℕ) → is_in tag one.header ≡ is_in tag other.header
  pub lengths : one.lengths ≡ other.lengths

-- ---- structures

-- the structures of the nodes from index i on, by the MsgTypes of their messages
abbrev pub structures_from : List Node → ℕ → List (List ℕ) → List (List ℕ × Structure)
structures_from graph i [] = []
structures_from graph i (kind ∷ kinds) = (kind, structure_of graph (links_at graph i)) ∷ structures_from graph (suc i) kinds

-- the structures of messages by their MsgTypes, given all nodes, of which those of the messages are the last
abbrev pub structures_in : List Node × List (List ℕ) → List (List ℕ × Structure)
structures_in table = structures_from table.0 (length table.0 - length table.1) table.1

-- the references of the node with index i end, and its structure is within the limits
pub record IsWhole (graph : List Node) (i : ℕ) : Type 0 where
  pub within : i < length graph
  pub ends : Ends graph (links_at graph i)
  pub short : (node : Node) → slice_get graph i ≡ Some node → is_over_limit graph node ≡ false

-- the same for each node from index `first` on
abbrev pub AreWhole : List Node → ℕ → Type 0
AreWhole graph first = (i : ℕ) → first ≤ i → i < length graph → IsWhole graph i

-- the same for the messages among these members, whose nodes are the last
abbrev pub HasWhole : List FieldEl → Linked → Type 0
HasWhole fields m = AreWhole (graph_of fields m) (length (graph_of fields m) - length m.messages)
