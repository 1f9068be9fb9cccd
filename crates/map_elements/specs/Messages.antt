-- Messages: name, msgType; one structure or none, with references.
use Rattle.std.specs.Prelude.{List, [], ◌∷◌, codes, Option, Some, None, Ok}
use Rattle.serde_json.specs.Data.{Data}
use Rattle.json_elements.specs.declared.refusal.Cause.TheVariants.{Shape}
use Rattle.json_elements.specs.Reading.{Reading, ◌>>=◌, refuse, inside}
use Rattle.json_elements.specs.Forms.{text}
use Rattle.json_elements.specs.Attributes.{needed}
use Rattle.json_elements.specs.Elements.{content}
use Rattle.json_elements.specs.KnownChildren.{Reads, known_children}
use Rattle.map_types.specs.declared.tree.StructureEl.{StructureEl}
use Rattle.map_types.specs.declared.tree.MessageEl.{MessageEl}
use Rattle.map_elements.specs.declared.element_name.ElementName.{ElementName}
use Rattle.map_elements.specs.declared.element_name.ElementName.TheVariants as element
use Rattle.map_elements.specs.Names.{element_of, a_msg_type}
use Rattle.map_elements.specs.References.{members, known, ref_child}

-- A child of a message with this name, of which one may be a structure.
abbrev pub structure_item : List StructureEl → ElementName → Data → Reading (Option StructureEl)
structure_item [] element.Structure d = inside (codes "structure") (members ref_child d) >>= (λ references. Ok (Some (record { children = references })))
structure_item (s ∷ before) element.Structure d = refuse Shape
structure_item before _ d = Ok None

-- a child of a message
abbrev pub structure_child : Reads StructureEl
structure_child before name d = structure_item before (element_of name) d

-- A message.
abbrev pub message_from : Data → Reading MessageEl
message_from d = do
  children ← content d
  name ← needed text (codes "name") d
  msg_type ← needed a_msg_type (codes "msgType") d
  structures ← known_children structure_child [] 0 children
  Ok (record { name = name; msg_type = msg_type; children = structures })

-- A child of `messages` with this name.
abbrev pub message_item : ElementName → Data → Reading (Option MessageEl)
message_item element.Message d = known (codes "message") (message_from d)
message_item _ d = Ok None

-- a child of `messages`
abbrev pub message_child : Reads MessageEl
message_child before name d = message_item (element_of name) d
