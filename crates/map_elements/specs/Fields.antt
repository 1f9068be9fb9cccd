-- Datatypes, code sets and fields.
use Rattle.std.specs.Prelude.{[], codes, Option, None, Ok}
use Rattle.serde_json.specs.Data.{Data}
use Rattle.json_elements.specs.Reading.{Reading, ◌>>=◌}
use Rattle.json_elements.specs.Forms.{text}
use Rattle.json_elements.specs.Attributes.{needed, optional}
use Rattle.json_elements.specs.Elements.{content}
use Rattle.json_elements.specs.KnownChildren.{Reads, known_children, no_child}
use Rattle.map_types.specs.declared.tree.DatatypeEl.{DatatypeEl}
use Rattle.map_types.specs.declared.tree.CodeEl.{CodeEl}
use Rattle.map_types.specs.declared.tree.CodeSetEl.{CodeSetEl}
use Rattle.map_types.specs.declared.tree.FieldEl.{FieldEl}
use Rattle.map_elements.specs.declared.element_name.ElementName.{ElementName}
use Rattle.map_elements.specs.declared.element_name.ElementName.TheVariants as element
use Rattle.map_elements.specs.Names.{element_of, an_id, a_code_value}
use Rattle.map_elements.specs.References.{known}

-- ---- datatype: name; no children

-- A declared datatype.
abbrev pub datatype_from : Data → Reading DatatypeEl
datatype_from d = do
  children ← content d
  name ← needed text (codes "name") d
  _ ← known_children no_child [] 0 children
  Ok (record { name = name })

-- A child of `datatypes` with this name.
abbrev pub datatype_item : ElementName → Data → Reading (Option DatatypeEl)
datatype_item element.Datatype d = known (codes "datatype") (datatype_from d)
datatype_item _ d = Ok None

-- a child of `datatypes`
abbrev pub datatype_child : Reads DatatypeEl
datatype_child before name d = datatype_item (element_of name) d

-- ---- code: name, value; no children

-- A code.
abbrev pub code_from : Data → Reading CodeEl
code_from d = do
  children ← content d
  name ← needed text (codes "name") d
  value ← needed a_code_value (codes "value") d
  _ ← known_children no_child [] 0 children
  Ok (record { name = name; value = value })

-- A child of a code set with this name.
abbrev pub code_item : ElementName → Data → Reading (Option CodeEl)
code_item element.Code d = known (codes "code") (code_from d)
code_item _ d = Ok None

-- a child of a code set
abbrev pub code_child : Reads CodeEl
code_child before name d = code_item (element_of name) d

-- ---- codeSet: name, type; codes

-- A code set.
abbrev pub code_set_from : Data → Reading CodeSetEl
code_set_from d = do
  children ← content d
  name ← needed text (codes "name") d
  type_name ← needed text (codes "type") d
  its_codes ← known_children code_child [] 0 children
  Ok (record { name = name; type_name = type_name; children = its_codes })

-- A child of `codeSets` with this name.
abbrev pub code_set_item : ElementName → Data → Reading (Option CodeSetEl)
code_set_item element.CodeSet d = known (codes "codeSet") (code_set_from d)
code_set_item _ d = Ok None

-- a child of `codeSets`
abbrev pub code_set_child : Reads CodeSetEl
code_set_child before name d = code_set_item (element_of name) d

-- ---- field: id, name, type; lengthId, which may be missing; no children

-- A field.
abbrev pub field_from : Data → Reading FieldEl
field_from d = do
  children ← content d
  id ← needed an_id (codes "id") d
  name ← needed text (codes "name") d
  type_name ← needed text (codes "type") d
  length_id ← optional an_id (codes "lengthId") d
  _ ← known_children no_child [] 0 children
  Ok (record { id = id; name = name; type_name = type_name; length_id = length_id })

-- A child of `fields` with this name.
abbrev pub field_item : ElementName → Data → Reading (Option FieldEl)
field_item element.Field d = known (codes "field") (field_from d)
field_item _ d = Ok None

-- a child of `fields`
abbrev pub field_child : Reads FieldEl
field_child before name d = field_item (element_of name) d
