-- What the bridge takes of a mapping: the structure of each message, with components expanded, the datatypes of fields,
-- and the tags of the header and of length fields. From FIX Orchestra, message structures. Own profile: the datatypes.
use Rattle.std.specs.Prelude.{ℕ, Bool, false, ◌||◌, ◌==◌, if◌then◌else◌, List, [], ◌∷◌, ◌++◌, Option, Some, None, bytes_eq}
use Rattle.bridge_terms.specs.Parts.{TagLists}
use Rattle.reference_graph.specs.Expansion.{Structure, ended, plain, counted}
use Rattle.bridge_rules.specs.Datatypes.{Datatype, unbridged}

-- what the bridge takes of a mapping
pub record Mapping : Type 0 where
  pub lists : TagLists
  pub datatypes : List (ℕ × Datatype)
  -- the structures of messages, by MsgType
  pub messages : List (List ℕ × Structure)

-- the tag is that of a field at this level
abbrev pub is_plain : ℕ → Structure → Bool
is_plain tag ended = false
is_plain tag (plain other rest) = (other == tag) || is_plain tag rest
is_plain tag (counted other inner rest) = is_plain tag rest

-- the places of the entries of the group with this count tag
abbrev pub inner_of : ℕ → Structure → Option Structure
inner_of tag ended = None
inner_of tag (plain other rest) = inner_of tag rest
inner_of tag (counted other inner rest) = if other == tag then Some inner else inner_of tag rest

-- the tag of the first place, if that is a field
abbrev pub delimiter_of : Structure → Option ℕ
delimiter_of ended = None
delimiter_of (plain tag rest) = Some tag
delimiter_of (counted tag inner rest) = None

-- the datatype of a tag in a table
abbrev pub datatype_in : ℕ → List (ℕ × Datatype) → Datatype
datatype_in tag [] = unbridged
datatype_in tag (d ∷ ds) = if d.0 == tag then d.1 else datatype_in tag ds

-- the datatype of the fields with a tag
abbrev pub datatype_of : Mapping → ℕ → Datatype
datatype_of m tag = datatype_in tag m.datatypes

abbrev structure_among : List ℕ → List (List ℕ × Structure) → Option Structure
structure_among kind [] = None
structure_among kind (m ∷ ms) = if bytes_eq m.0 kind then Some m.1 else structure_among kind ms

-- the structure of the message with a MsgType
abbrev pub structure_for : Mapping → List ℕ → Option Structure
structure_for m kind = structure_among kind m.messages
