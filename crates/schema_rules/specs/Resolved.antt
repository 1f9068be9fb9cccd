-- The checked schema: every type name resolved, with effective sinces and block lengths.
use Rattle.std.specs.Prelude.{ℕ, max, List, [], ◌∷◌, map, Option, unwrap_or, pos}
use Rattle.sbe_types.specs.declared.kind.Primitive.TheVariants.{U8}
use Rattle.sbe_types.specs.declared.kind.Presence.TheVariants.{Required}
use Rattle.sbe_types.specs.declared.kind.LeafShape.TheVariants as shape
use Rattle.sbe_types.specs.declared.kind.Leaf.{Leaf as LeafOf}
use Rattle.sbe_types.specs.declared.kind.Member.{Member}
use Rattle.sbe_types.specs.declared.schema.Field.{Field}
use Rattle.sbe_types.specs.declared.schema.DataField.{DataField}
use Rattle.sbe_types.specs.declared.schema.Group.{Group, roll-Group}
use Rattle.sbe_types.specs.declared.schema.Level.{Level, roll-Level}
use Rattle.sbe_types.specs.declared.schema.WireSchema.{WireSchema}
use Rattle.sbe_types.specs.declared.tree.Schema.{Schema}
use Rattle.sbe_types.specs.declared.tree.MessageEl.{MessageEl}
use Rattle.sbe_types.specs.declared.tree.FieldEl.{FieldEl}
use Rattle.sbe_types.specs.declared.tree.DataEl.{DataEl}
use Rattle.sbe_types.specs.declared.tree.PartItem.{PartItem, Row_of-PartItem, end_of-PartItem, more_of-PartItem}
use Rattle.sbe_types.specs.declared.tree.PartItem as part
use Rattle.sbe_types.specs.declared.tree.TypesItem.{TypesItem}
use Rattle.sbe_types.specs.Places.{fields_end}
use Rattle.schema_rules.specs.Counters.{leaf_in}
use Rattle.schema_rules.specs.Names.{declared_types, messages_of}
use Rattle.schema_rules.specs.Kinds.{field_kind, members_named}

-- the declared types, and the effective since of a level
pub record Within : Type 0 where
  pub types : List TypesItem
  pub since : ℕ

-- The entries of a group with this sinceVersion.
abbrev pub inside : Within → ℕ → Within
inside within own = record { types = within.types; since = max within.since own }

-- A field with its kind and its effective since.
abbrev pub resolved_field : Within → FieldEl → Field
resolved_field within f =
    record { name = f.name; id = f.id; since = max within.since f.since_version; offset = f.offset; kind = field_kind within.types f }

-- the length used where a rule is broken, so that there is none
abbrev pub no_length : LeafOf
no_length = record { prim = U8; length = 1; shape = shape.Number; presence = Required; null = pos 255; low = pos 0; high = pos 254 }

-- the length of a data part is the first member of its type
abbrev pub length_in : List Member → LeafOf
length_in [] = no_length
length_in (m ∷ ms) = unwrap_or (leaf_in m.kind) no_length

-- A data part with its length and its effective since.
abbrev pub resolved_data : Within → DataEl → DataField
resolved_data within d =
    record { name = d.name; id = d.id; since = max within.since d.since_version; length = length_in (members_named within.types d.type_name) }

-- A part put before fields, if it is a field.
abbrev pub with_field : Within → PartItem → List Field → List Field
with_field within (part.Field f) fields = resolved_field within f ∷ fields
with_field within (part.Group' name id dimension since length n row) fields = fields
with_field within (part.Data d) fields = fields

-- A part put before data, if it is data.
abbrev pub with_data : Within → PartItem → List DataField → List DataField
with_data within (part.Field f) parts = parts
with_data within (part.Group' name id dimension since length n row) parts = parts
with_data within (part.Data d) parts = resolved_data within d ∷ parts

-- The fields of a row of parts.
abbrev pub row_fields : Within → {n : _} → Row_of-PartItem n → List Field
row_fields within end_of-PartItem = []
row_fields within (more_of-PartItem p rest) = with_field within p (row_fields within rest)

-- The data of a row of parts.
abbrev pub row_data : Within → {n : _} → Row_of-PartItem n → List DataField
row_data within end_of-PartItem = []
row_data within (more_of-PartItem p rest) = with_data within p (row_data within rest)

-- the stated block length, else the end of the fields
abbrev pub block_of : Option ℕ → List Field → ℕ
block_of stated fields = unwrap_or stated (fields_end 0 fields)

abbrev mutual
  -- The groups of a row of parts.
  pub row_groups : Within → {n : _} → Row_of-PartItem n → List Group
  row_groups within end_of-PartItem = []
  row_groups within (more_of-PartItem p rest) = with_group within p (row_groups within rest)

  -- A part put before groups, if it is a group.
  pub with_group : Within → PartItem → List Group → List Group
  with_group within (part.Field f) groups = groups
  with_group within (part.Data d) groups = groups
  with_group within (part.Group' name id dimension since length n row) groups =
      roll-Group (record {
        dim = members_named within.types dimension;
        level = roll-Level (record {
          name = name;
          id = id;
          semantic = [];
          since = max within.since since;
          block_length = block_of length (row_fields (inside within since) row);
          fields = row_fields (inside within since) row;
          groups = row_groups (inside within since) row;
          parts = row_data (inside within since) row;
        });
      })
      ∷ groups

-- The fields of a list of parts.
abbrev pub list_fields : Within → List PartItem → List Field
list_fields within [] = []
list_fields within (p ∷ ps) = with_field within p (list_fields within ps)

-- The data of a list of parts.
abbrev pub list_data : Within → List PartItem → List DataField
list_data within [] = []
list_data within (p ∷ ps) = with_data within p (list_data within ps)

-- The groups of a list of parts.
abbrev pub list_groups : Within → List PartItem → List Group
list_groups within [] = []
list_groups within (p ∷ ps) = with_group within p (list_groups within ps)

-- the root level of a message; the message's own sinceVersion isn't counted
abbrev pub resolved_message : List TypesItem → MessageEl → Level
resolved_message types m = level_at (record { types = types; since = 0 }) where
  level_at : Within → Level
  level_at within =
      roll-Level (record {
        name = m.name;
        id = m.id;
        semantic = m.semantic_type;
        since = 0;
        block_length = block_of m.block_length (list_fields within m.children);
        fields = list_fields within m.children;
        groups = list_groups within m.children;
        parts = list_data within m.children;
      })

-- The checked schema of a tree.
abbrev pub resolved : Schema → WireSchema
resolved schema =
    record {
      id = schema.id;
      version = schema.version;
      order = schema.byte_order;
      header = record { members = members_named (declared_types schema) schema.header_type };
      messages = map (resolved_message (declared_types schema)) (messages_of schema);
    }
