-- The elements of messages (SBE 1.0, "Message schema: message"), checked in the same order as types.
use Rattle.std.specs.Prelude.{ℕ, List, [], codes, Ok}
use Rattle.serde_json.specs.Data.{Data}
use Rattle.json_elements.specs.declared.refusal.Cause.TheVariants.{Shape}
use Rattle.json_elements.specs.Reading.{Reading, ◌>>=◌, refuse, inside}
use Rattle.json_elements.specs.Forms.{id_number, text}
use Rattle.json_elements.specs.Attributes.{needed, with_default, optional}
use Rattle.json_elements.specs.Elements.{content, items_count, at_most, no_children, each, tree}
use Rattle.sbe_types.specs.declared.tree.FieldEl.{FieldEl}
use Rattle.sbe_types.specs.declared.tree.DataEl.{DataEl}
use Rattle.sbe_types.specs.declared.tree.GroupEl.{GroupEl, roll-GroupEl}
use Rattle.sbe_types.specs.declared.tree.MessageEl.{MessageEl}
use Rattle.sbe_types.specs.declared.tree.PartItem.{PartItem}
use Rattle.sbe_types.specs.declared.tree.PartItem as part
use Rattle.sbe_schema.specs.declared.element_name.ElementName.{ElementName}
use Rattle.sbe_schema.specs.declared.element_name.ElementName.TheVariants as element
use Rattle.sbe_types.specs.declared.limits.TheConstants.{PART_LIMIT}
use Rattle.sbe_schema.specs.Forms.{a_name, a_value_ref, a_presence, a_place, element_of}

-- ---- field: name, id, type, sinceVersion (0); presence, offset and valueRef may be missing; no children

-- A field.
abbrev pub field_from : Data → Reading FieldEl
field_from d = do
  children ← content d
  name ← needed a_name (codes "name") d
  id ← needed id_number (codes "id") d
  type_name ← needed a_name (codes "type") d
  since_version ← with_default 0 id_number (codes "sinceVersion") d
  presence ← optional a_presence (codes "presence") d
  offset ← optional a_place (codes "offset") d
  value_ref ← optional a_value_ref (codes "valueRef") d
  _ ← no_children children
  Ok (record { name = name; id = id; type_name = type_name; since_version = since_version; presence = presence; offset = offset; value_ref = value_ref })

-- ---- data: name, id, type, sinceVersion (0); no children

-- A data part.
abbrev pub data_from : Data → Reading DataEl
data_from d = do
  children ← content d
  name ← needed a_name (codes "name") d
  id ← needed id_number (codes "id") d
  type_name ← needed a_name (codes "type") d
  since_version ← with_default 0 id_number (codes "sinceVersion") d
  _ ← no_children children
  Ok (record { name = name; id = id; type_name = type_name; since_version = since_version })

-- ---- group: name, id, dimensionType (groupSizeEncoding), sinceVersion (0); blockLength may be missing;
-- field, group, data

-- a group, with what is read of its parts
abbrev pub group_from : Data → Reading (List PartItem) → Reading GroupEl
group_from d read = do
  children ← content d
  name ← needed a_name (codes "name") d
  id ← needed id_number (codes "id") d
  dimension_type ← with_default (codes "groupSizeEncoding") a_name (codes "dimensionType") d
  since_version ← with_default 0 id_number (codes "sinceVersion") d
  block_length ← optional a_place (codes "blockLength") d
  _ ← at_most PART_LIMIT (items_count children)
  parts ← read
  Ok (roll-GroupEl (record {
    name = name;
    id = id;
    dimension_type = dimension_type;
    since_version = since_version;
    block_length = block_length;
    children = parts;
  }))

-- a part with this name, with what is read of its own parts
abbrev pub part_child : ElementName → Data → Reading (List PartItem) → Reading PartItem
part_child element.Field d read = inside (codes "field") (field_from d) >>= (λ x. Ok (part.Field x))
part_child element.Group d read = inside (codes "group") (group_from d read) >>= (λ x. Ok (part.Group x))
part_child element.Data d read = inside (codes "data") (data_from d) >>= (λ x. Ok (part.Data x))
part_child _ d read = refuse Shape

-- A part of a level by its name, with what is read of its own parts.
abbrev pub by_part : List ℕ → Data → Reading (List PartItem) → Reading PartItem
by_part name = part_child (element_of name)

-- A part of a level, with everything inside it.
abbrev pub part_of : Data → Reading PartItem
part_of = tree by_part

-- ---- message: name, id, semanticType (empty), sinceVersion (0); blockLength may be missing; field, group, data

-- A message with its parts.
abbrev pub message_from : Data → Reading MessageEl
message_from d = do
  children ← content d
  name ← needed a_name (codes "name") d
  id ← needed id_number (codes "id") d
  semantic_type ← with_default [] text (codes "semanticType") d
  since_version ← with_default 0 id_number (codes "sinceVersion") d
  block_length ← optional a_place (codes "blockLength") d
  _ ← at_most PART_LIMIT (items_count children)
  parts ← each part_of 0 children
  Ok (record {
    name = name;
    id = id;
    semantic_type = semantic_type;
    since_version = since_version;
    block_length = block_length;
    children = parts;
  })
