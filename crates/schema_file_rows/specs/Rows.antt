-- Small worked files, and what they contain.
use Rattle.std.specs.Prelude.{ℕ, List, [], ◌∷◌, codes, None}
use Rattle.sbe_types.specs.declared.kind.Order.TheVariants.{Little}
use Rattle.sbe_types.specs.declared.tree.Schema.{Schema}
use Rattle.sbe_types.specs.declared.tree.SchemaItem.{SchemaItem}
use Rattle.sbe_types.specs.declared.tree.SchemaItem.TheVariants as outer
use Rattle.sbe_types.specs.declared.tree.PartItem as part

-- A file that begins as XML.
abbrev pub xml_file : List ℕ
xml_file = codes " <x/>"

-- A file without a JSON value.
abbrev pub word_file : List ℕ
word_file = codes "xy"

-- A file whose root is another element.
abbrev pub types_file : List ℕ
types_file = codes "{\"types\":{}}"

-- A file whose root has a second prefix.
abbrev pub two_colons_file : List ℕ
two_colons_file = codes "{\"a:b:messageSchema\":{\"id\":7}}"

-- A file whose content isn't a list.
abbrev pub null_content_file : List ℕ
null_content_file = codes "{\"messageSchema\":{\"content\":null}}"

-- A file whose schema has no id.
abbrev pub no_id_file : List ℕ
no_id_file = codes "{\"messageSchema\":{}}"

-- A file whose id is null.
abbrev pub null_id_file : List ℕ
null_id_file = codes "{\"messageSchema\":{\"id\":null}}"

-- A file with two faulty attributes.
abbrev pub two_faults_file : List ℕ
two_faults_file = codes "{\"messageSchema\":{\"id\":7,\"package\":8,\"byteOrder\":9}}"

-- A file with an array over its limit.
abbrev pub long_array_file : List ℕ
long_array_file = codes "{\"messageSchema\":{\"id\":7,\"content\":[{\"types\":{\"content\":[{\"type\":{\"name\":\"t\",\"primitiveType\":\"char\",\"length\":65536}}]}}]}}"

-- A file with a fault in a member of a member.
abbrev pub deep_member_file : List ℕ
deep_member_file = codes "{\"messageSchema\":{\"id\":7,\"content\":[{\"types\":{\"content\":[{\"composite\":{\"name\":\"c\",\"content\":[{\"type\":{\"name\":\"a\"}}]}}]}}]}}"

-- A file with a fault in a part of a group.
abbrev pub deep_part_file : List ℕ
deep_part_file = codes "{\"messageSchema\":{\"id\":7,\"content\":[{\"message\":{\"name\":\"m\",\"id\":1,\"content\":[{\"group\":{\"name\":\"g\",\"id\":2,\"content\":[{\"ref\":{}}]}}]}}]}}"

-- A file that states only what it must.
abbrev pub defaults_file : List ℕ
defaults_file = codes "{\"x:messageSchema\":{\"id\":\"7\"}}"

-- The tree of that file, with each default filled in.
abbrev pub defaults_schema : Schema
defaults_schema = record { id = 7; version = 0; «package» = []; byte_order = Little; header_type = codes "messageHeader"; children = [] }

-- A file with one message.
abbrev pub ping_file : List ℕ
ping_file = codes "{\"messageSchema\":{\"id\":7,\"content\":[{\"message\":{\"name\":\"Ping\",\"id\":1,\"content\":[{\"field\":{\"name\":\"a\",\"id\":1001,\"type\":\"uint16\"}}]}}]}}"

-- The message of that file.
abbrev pub ping_message : SchemaItem
ping_message = outer.Message (record {
  name = codes "Ping";
  id = 1;
  semantic_type = [];
  since_version = 0;
  block_length = None;
  children = part.Field (record {
    name = codes "a";
    id = 1001;
    type_name = codes "uint16";
    since_version = 0;
    presence = None;
    offset = None;
    value_ref = None;
  }) ∷ [];
})

-- The tree of that file.
abbrev pub ping_schema : Schema
ping_schema = record { id = 7; version = 0; «package» = []; byte_order = Little; header_type = codes "messageHeader"; children = ping_message ∷ [] }
