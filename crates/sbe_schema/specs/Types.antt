-- The elements that declare types (SBE 1.0, "Message schema: types"). Each is checked in this order: its shape, its
-- attributes in the order of the table, the number of its children, and its children.
use Rattle.std.specs.Prelude.{ℕ, List, codes, Option, None, Ok}
use Rattle.serde_json.specs.Data.{Data}
use Rattle.json_elements.specs.declared.refusal.Cause.TheVariants.{Shape}
use Rattle.json_elements.specs.Reading.{Reading, ◌>>=◌, refuse, inside}
use Rattle.json_elements.specs.Forms.{whole, id_number, text, text_or_number}
use Rattle.json_elements.specs.Attributes.{needed, with_default, optional}
use Rattle.json_elements.specs.Elements.{content, items_count, at_most, no_children, each, named, tree}
use Rattle.sbe_types.specs.declared.tree.TypeEl.{TypeEl}
use Rattle.sbe_types.specs.declared.tree.RefEl.{RefEl}
use Rattle.sbe_types.specs.declared.tree.ValidValueEl.{ValidValueEl}
use Rattle.sbe_types.specs.declared.tree.EnumEl.{EnumEl}
use Rattle.sbe_types.specs.declared.tree.ChoiceEl.{ChoiceEl}
use Rattle.sbe_types.specs.declared.tree.SetEl.{SetEl}
use Rattle.sbe_types.specs.declared.tree.CompositeEl.{CompositeEl, roll-CompositeEl}
use Rattle.sbe_types.specs.declared.tree.MemberItem.{MemberItem}
use Rattle.sbe_types.specs.declared.tree.MemberItem as member
use Rattle.sbe_schema.specs.declared.element_name.ElementName.{ElementName}
use Rattle.sbe_schema.specs.declared.element_name.ElementName.TheVariants as element
use Rattle.sbe_schema.specs.declared.types.Standing.{Standing}
use Rattle.sbe_schema.specs.declared.types.Standing.TheVariants.{Declared, Member}
use Rattle.sbe_types.specs.declared.limits.TheConstants.{MEMBER_LIMIT, VALUE_LIMIT}
use Rattle.sbe_schema.specs.Forms.{a_name, a_value_ref, a_primitive, a_presence, a_length, a_place, element_of}

-- ---- what a member of a composite has in addition

-- offset: may be missing
abbrev pub offset_from : Standing → Data → Reading (Option ℕ)
offset_from Declared d = Ok None
offset_from Member d = optional a_place (codes "offset") d

-- sinceVersion (0)
abbrev pub since_from : Standing → Data → Reading ℕ
since_from Declared d = Ok 0
since_from Member d = with_default 0 id_number (codes "sinceVersion") d

-- ---- type: name, primitiveType, length (1); presence, nullValue, minValue, maxValue,
-- characterEncoding, valueRef and text may be missing; no children

-- A type, declared or a member of a composite.
abbrev pub type_from : Standing → Data → Reading TypeEl
type_from standing d = do
  children ← content d
  name ← needed a_name (codes "name") d
  primitive_type ← needed a_primitive (codes "primitiveType") d
  its_length ← with_default 1 a_length (codes "length") d
  presence ← optional a_presence (codes "presence") d
  null_value ← optional whole (codes "nullValue") d
  min_value ← optional whole (codes "minValue") d
  max_value ← optional whole (codes "maxValue") d
  character_encoding ← optional text (codes "characterEncoding") d
  value_ref ← optional a_value_ref (codes "valueRef") d
  its_text ← optional text_or_number (codes "text") d
  offset ← offset_from standing d
  since_version ← since_from standing d
  _ ← no_children children
  Ok (record {
    name = name;
    primitive_type = primitive_type;
    length = its_length;
    presence = presence;
    null_value = null_value;
    min_value = min_value;
    max_value = max_value;
    character_encoding = character_encoding;
    value_ref = value_ref;
    text = its_text;
    offset = offset;
    since_version = since_version;
  })

-- ---- ref: name, type; no children

-- A ref.
abbrev pub ref_from : Data → Reading RefEl
ref_from d = do
  children ← content d
  name ← needed a_name (codes "name") d
  type_name ← needed a_name (codes "type") d
  offset ← offset_from Member d
  since_version ← since_from Member d
  _ ← no_children children
  Ok (record { name = name; type_name = type_name; offset = offset; since_version = since_version })

-- ---- enum: name, encodingType; validValue

-- validValue: name, text; no children
abbrev pub valid_value_from : Data → Reading ValidValueEl
valid_value_from d = do
  children ← content d
  name ← needed a_name (codes "name") d
  its_text ← needed text_or_number (codes "text") d
  _ ← no_children children
  Ok (record { name = name; text = its_text })

-- A child of an enum, which is a validValue.
abbrev pub enum_child : ElementName → Data → Reading ValidValueEl
enum_child element.ValidValue d = inside (codes "validValue") (valid_value_from d)
enum_child _ d = refuse Shape

-- A validValue with its name.
abbrev pub valid_value : Data → Reading ValidValueEl
valid_value = named (λ name. enum_child (element_of name))

-- An enum, declared or a member of a composite.
abbrev pub enum_from : Standing → Data → Reading EnumEl
enum_from standing d = do
  children ← content d
  name ← needed a_name (codes "name") d
  encoding_type ← needed a_name (codes "encodingType") d
  offset ← offset_from standing d
  since_version ← since_from standing d
  _ ← at_most VALUE_LIMIT (items_count children)
  values ← each valid_value 0 children
  Ok (record { name = name; encoding_type = encoding_type; offset = offset; since_version = since_version; children = values })

-- ---- set: name, encodingType; choice

-- choice: name, text; no children
abbrev pub choice_from : Data → Reading ChoiceEl
choice_from d = do
  children ← content d
  name ← needed a_name (codes "name") d
  its_text ← needed text_or_number (codes "text") d
  _ ← no_children children
  Ok (record { name = name; text = its_text })

-- A child of a set, which is a choice.
abbrev pub set_child : ElementName → Data → Reading ChoiceEl
set_child element.Choice d = inside (codes "choice") (choice_from d)
set_child _ d = refuse Shape

-- A choice with its name.
abbrev pub choice : Data → Reading ChoiceEl
choice = named (λ name. set_child (element_of name))

-- A set, declared or a member of a composite.
abbrev pub set_from : Standing → Data → Reading SetEl
set_from standing d = do
  children ← content d
  name ← needed a_name (codes "name") d
  encoding_type ← needed a_name (codes "encodingType") d
  offset ← offset_from standing d
  since_version ← since_from standing d
  choices ← each choice 0 children
  Ok (record { name = name; encoding_type = encoding_type; offset = offset; since_version = since_version; children = choices })

-- ---- composite: name; type, enum, set, composite, ref

-- a composite, with what is read of its members
abbrev pub composite_from : Standing → Data → Reading (List MemberItem) → Reading CompositeEl
composite_from standing d read = do
  children ← content d
  name ← needed a_name (codes "name") d
  offset ← offset_from standing d
  since_version ← since_from standing d
  _ ← at_most MEMBER_LIMIT (items_count children)
  members ← read
  Ok (roll-CompositeEl (record { name = name; offset = offset; since_version = since_version; children = members }))

-- a member with this name, with what is read of its own members
abbrev pub composite_child : ElementName → Data → Reading (List MemberItem) → Reading MemberItem
composite_child element.Type d read = inside (codes "type") (type_from Member d) >>= (λ x. Ok (member.Type x))
composite_child element.Enum d read = inside (codes "enum") (enum_from Member d) >>= (λ x. Ok (member.Enum x))
composite_child element.Set d read = inside (codes "set") (set_from Member d) >>= (λ x. Ok (member.Set x))
composite_child element.Composite d read = inside (codes "composite") (composite_from Member d read) >>= (λ x. Ok (member.Composite x))
composite_child element.Ref d read = inside (codes "ref") (ref_from d) >>= (λ x. Ok (member.Ref x))
composite_child _ d read = refuse Shape

-- A member of a composite by its name, with what is read of its own members.
abbrev pub by_member : List ℕ → Data → Reading (List MemberItem) → Reading MemberItem
by_member name = composite_child (element_of name)

-- A member of a composite, with everything inside it.
abbrev pub member_of : Data → Reading MemberItem
member_of = tree by_member
