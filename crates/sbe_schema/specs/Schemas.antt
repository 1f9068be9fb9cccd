-- A schema file and its outer elements.
use Rattle.std.specs.Prelude.{◌≡◌, ℕ, ◌+◌, ◌-◌, List, [], ◌∷◌, codes, length, Option, Some, None, Result, Ok, Err, ⊤}
use Rattle.serde_json.specs.Data.{Data, Items, no_items, item}
use Rattle.json_elements.specs.declared.refusal.Cause.TheVariants.{Shape}
use Rattle.json_elements.specs.Reading.{Reading, ◌>>=◌, refuse, refusal, inside, at_child}
use Rattle.json_elements.specs.Forms.{id_number, text}
use Rattle.json_elements.specs.Attributes.{needed, with_default}
use Rattle.json_elements.specs.Elements.{lone, named, content, items_count, at_most, each, branches}
use Rattle.json_elements.specs.Files.{value_of}
use Rattle.sbe_types.specs.declared.kind.Order.TheVariants.{Little}
use Rattle.sbe_types.specs.declared.tree.TypesEl.{TypesEl}
use Rattle.sbe_types.specs.declared.tree.TypesItem.{TypesItem}
use Rattle.sbe_types.specs.declared.tree.TypesItem.TheVariants as declared_type
use Rattle.sbe_types.specs.declared.tree.Schema.{Schema}
use Rattle.sbe_types.specs.declared.tree.SchemaItem.{SchemaItem}
use Rattle.sbe_types.specs.declared.tree.SchemaItem.TheVariants as part
use Rattle.sbe_schema.specs.declared.element_name.ElementName.{ElementName}
use Rattle.sbe_schema.specs.declared.element_name.ElementName.TheVariants as element
use Rattle.sbe_schema.specs.declared.types.Standing.TheVariants.{Declared}
use Rattle.sbe_types.specs.declared.limits.TheConstants.{TYPE_LIMIT, MESSAGE_LIMIT}
use Rattle.sbe_schema.specs.declared.schema_err.SchemaErr.{SchemaErr}
use Rattle.sbe_schema.specs.declared.schema_err.SchemaErr.TheVariants.{Refused, Memory}
use Rattle.sbe_schema.specs.Forms.{a_name, a_byte_order, element_of}
use Rattle.sbe_schema.specs.Types.{type_from, enum_from, set_from, composite_from, by_member}
use Rattle.sbe_schema.specs.Messages.{message_from}

-- ---- types: no attributes; type, composite, enum, set

-- A child of types by its name.
abbrev pub types_child : ElementName → Data → Reading TypesItem
types_child element.Type d = inside (codes "type") (type_from Declared d) >>= (λ x. Ok (declared_type.Type x))
types_child element.Composite d = inside (codes "composite") (composite_from Declared d (branches by_member d)) >>= (λ x. Ok (declared_type.Composite x))
types_child element.Enum d = inside (codes "enum") (enum_from Declared d) >>= (λ x. Ok (declared_type.Enum x))
types_child element.Set d = inside (codes "set") (set_from Declared d) >>= (λ x. Ok (declared_type.Set x))
types_child _ d = refuse Shape

-- A declared type with its name.
abbrev pub declared : Data → Reading TypesItem
declared = named (λ name. types_child (element_of name))

-- a types element, where at most `room` more types may be declared
abbrev pub types_from : ℕ → Data → Reading TypesEl
types_from room d = do
  children ← content d
  _ ← at_most room (items_count children)
  types ← each declared 0 children
  Ok (record { children = types })

-- ---- messageSchema: id, version (0), package (empty), byteOrder (littleEndian), headerType (messageHeader);
-- types, message

-- a child with this name, where at most `room` more types may be declared
abbrev pub schema_child : ℕ → ElementName → Data → Reading SchemaItem
schema_child room element.Types d = inside (codes "types") (types_from room d) >>= (λ x. Ok (part.Types x))
schema_child room element.Message d = inside (codes "message") (message_from d) >>= (λ x. Ok (part.Message x))
schema_child room _ d = refuse Shape

-- A child of messageSchema, where at most `room` more types may be declared.
abbrev pub outer_part : ℕ → Data → Reading SchemaItem
outer_part room = named (λ name. schema_child room (element_of name))

-- how many types a child declares
abbrev pub declares : SchemaItem → ℕ
declares (part.Types types) = length types.children
declares (part.Message message) = 0

-- the children from index i on, where at most `room` more types may be declared
abbrev pub outer_parts : ℕ → ℕ → Items → Reading (List SchemaItem)
outer_parts room i no_items = Ok []
outer_parts room i (item d ds) = do
  first ← at_child i (outer_part room d)
  others ← outer_parts (room - declares first) (i + 1) ds
  Ok (first ∷ others)

-- 1 for a message, and 0 for every other element.
abbrev pub one_if_message : ElementName → ℕ
one_if_message element.Message = 1
one_if_message _ = 0

-- 1 for a message element, and 0 for anything else.
abbrev pub message_count_in : Option (List ℕ × Data) → ℕ
message_count_in None = 0
message_count_in (Some p) = one_if_message (element_of p.0)

-- how many of the children are called message
abbrev pub message_count : Items → ℕ
message_count no_items = 0
message_count (item d ds) = message_count_in (lone d) + message_count ds

-- A messageSchema with its children.
abbrev pub schema_from : Data → Reading Schema
schema_from d = do
  children ← content d
  id ← needed id_number (codes "id") d
  version ← with_default 0 id_number (codes "version") d
  its_package ← with_default [] text (codes "package") d
  byte_order ← with_default Little a_byte_order (codes "byteOrder") d
  header_type ← with_default (codes "messageHeader") a_name (codes "headerType") d
  _ ← at_most MESSAGE_LIMIT (message_count children)
  parts ← outer_parts TYPE_LIMIT 0 children
  Ok (record { id = id; version = version; «package» = its_package; byte_order = byte_order; header_type = header_type; children = parts })

-- ---- the file

-- The root of a schema file, which is a messageSchema.
abbrev pub root : ElementName → Data → Reading Schema
root element.MessageSchema d = inside (codes "messageSchema") (schema_from d)
root _ d = refuse Shape

-- the schema of a file, or its first refusal
abbrev pub schema_of : List ℕ → Reading Schema
schema_of bytes = do
  d ← value_of bytes
  named (λ name. root (element_of name)) d

-- the answer is what is read, unless it is out of memory
abbrev pub Answers : Result Schema SchemaErr → Reading Schema → Type 0
Answers (Ok schema) read = read ≡ Ok schema
Answers (Err Memory) read = ⊤
Answers (Err (Refused code path)) read = read ≡ Err (refusal code path)
