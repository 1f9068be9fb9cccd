-- The one canonical body of a message: padding and unused bytes are 00, block lengths are the declared ones. From SBE
-- 1.0, Message structure, Repeating group encoding, and Variable-length data. Own profile: the zeros, and that a group
-- without entries has the declared block length. Some messages that don't fit have bytes here too; only those of a
-- message that fits are its body.
use Rattle.std.specs.Prelude.{ℕ, ◌-◌, if◌then◌else◌, Option, Some, None, option_map, List, [], ◌∷◌, length, replicate, pos, slice_get, codes}
use Rattle.std.specs.Str.{bytes_eq}
use Rattle.sbe_types.specs.declared.kind.Order.{Order}
use Rattle.sbe_types.specs.declared.kind.Kind.{Kind, Leaf, Enum, Set, Const, Comp'}
use Rattle.sbe_types.specs.declared.kind.Member.{Member}
use Rattle.sbe_types.specs.declared.schema.Field.{Field}
use Rattle.sbe_types.specs.declared.schema.DataField.{DataField}
use Rattle.sbe_types.specs.declared.schema.Group.{Group, Group'}
use Rattle.sbe_types.specs.declared.schema.Level.{Level, Level', out-Level, Row_of-Group, end_of-Group, more_of-Group}
use Rattle.sbe_types.specs.declared.schema.WireSchema.{WireSchema}
use Rattle.sbe_types.specs.declared.message.Value.{Value}
use Rattle.sbe_types.specs.declared.message.DataVal.{DataVal}
use Rattle.sbe_types.specs.declared.message.DataVal.TheVariants as dataval
use Rattle.sbe_types.specs.declared.message.Block.{Block, out-Block}
use Rattle.sbe_types.specs.declared.message.GroupVal.{GroupVal, items-the_row-Block}
use Rattle.sbe_types.specs.declared.message.GroupVal.TheVariants as groupval
use Rattle.sbe_types.specs.declared.message.Msg.{Msg}
use Rattle.sbe_types.specs.Numbers.{bytes_of}
use Rattle.sbe_types.specs.Places.{is_const, begin_of, end_past}
use Rattle.sbe_types.specs.Wire.{both, padded, wire_bytes}

-- ---- numbers by name: the header, and dimensions

-- the bytes of a number in a member of a header or dimension
abbrev pub number_bytes_in : Order → Kind → ℕ → Option (List ℕ)
number_bytes_in order (Leaf l) n = bytes_of order l.prim (pos n)
number_bytes_in order (Enum l names) n = None
number_bytes_in order (Set p names) n = None
number_bytes_in order (Const c) n = None
number_bytes_in order (Comp' k members) n = None

-- the bytes of members after members that end at e, each with the number of its name
abbrev pub named_bytes : Order → (List ℕ → ℕ) → ℕ → List Member → Option (List ℕ)
named_bytes order numbers e [] = Some []
named_bytes order numbers e (m ∷ ms) =
    both (both (Some (replicate (begin_of e m.offset - e) 0)) (number_bytes_in order m.kind (numbers m.name)))
    (named_bytes order numbers (end_past e m.offset m.kind) ms)

-- the two numbers of a dimension by their names
abbrev pub dimension_numbers : ℕ → ℕ → List ℕ → ℕ
dimension_numbers block count name = if bytes_eq name (codes "blockLength") then block else count

-- the four numbers of a header by their names: the block length is the declared one, the version that of the schema
abbrev pub header_numbers : WireSchema → Level → List ℕ → ℕ
header_numbers schema level name =
    if bytes_eq name (codes "blockLength") then (out-Level level).block_length
    else (if bytes_eq name (codes "templateId") then (out-Level level).id
    else (if bytes_eq name (codes "schemaId") then schema.id else schema.version))

-- ---- blocks, groups and data

-- the bytes of fields after fields that end at e: each at its offset, with 00 in the gaps
abbrev pub fields_bytes : Order → ℕ → List Field → List Value → Option (List ℕ)
fields_bytes order e [] [] = Some []
fields_bytes order e [] (v ∷ vs) = None
fields_bytes order e (f ∷ fs) [] = None
fields_bytes order e (f ∷ fs) (v ∷ vs) =
    both (both (Some (replicate (if is_const f.kind then 0 else begin_of e f.offset - e) 0)) (wire_bytes order f.kind v))
    (fields_bytes order (end_past e f.offset f.kind) fs vs)

-- the fields, padded with zeros to the declared block length
abbrev pub block_bytes : Order → ℕ → List Field → List Value → Option (List ℕ)
block_bytes order block_length fields values = option_map (padded block_length) (fields_bytes order 0 fields values)

-- the length number of data, and the data
abbrev pub part_bytes : Order → DataField → DataVal → Option (List ℕ)
part_bytes order part dataval.Absent = None
part_bytes order part (dataval.Bytes bytes) = both (bytes_of order part.length.prim (pos (length bytes))) (Some bytes)

-- the data parts of a level, concatenated
abbrev pub parts_bytes : Order → List DataField → List DataVal → Option (List ℕ)
parts_bytes order [] [] = Some []
parts_bytes order [] (v ∷ vs) = None
parts_bytes order (p ∷ ps) [] = None
parts_bytes order (p ∷ ps) (v ∷ vs) = both (part_bytes order p v) (parts_bytes order ps vs)

-- the bytes of items, concatenated
abbrev pub all_bytes : {X : Type 0} → (X → Option (List ℕ)) → List X → Option (List ℕ)
all_bytes f [] = Some []
all_bytes f (x ∷ xs) = both (f x) (all_bytes f xs)

-- the entries of a group that is there
abbrev pub entries_in : GroupVal → Option (List Block)
entries_in groupval.Absent = None
entries_in (groupval.Entries' n row) = Some (items-the_row-Block _ row)

-- the dimension of the entries, and then each entry
abbrev pub entries_bytes : Order → List Member → ℕ → (Block → Option (List ℕ)) → Option (List Block) → Option (List ℕ)
entries_bytes order dim block_length entry None = None
entries_bytes order dim block_length entry (Some entries) =
    both (named_bytes order (dimension_numbers block_length (length entries)) 0 dim) (all_bytes entry entries)

unfoldable mutual
  -- the groups of a level and then its data
  pub tail_bytes : Order → Level → Block → Option (List ℕ)
  tail_bytes order (Level' name id semantic since block_length fields _ groups parts) block =
      both (groups_bytes order groups (out-Block block).groups) (parts_bytes order parts (out-Block block).parts)

  -- the groups of a level, concatenated
  pub groups_bytes : Order → {n : _} → Row_of-Group n → List GroupVal → Option (List ℕ)
  groups_bytes order end_of-Group [] = Some []
  groups_bytes order end_of-Group (v ∷ vs) = None
  groups_bytes order (more_of-Group g rest) [] = None
  groups_bytes order (more_of-Group g rest) (v ∷ vs) = both (group_bytes order g v) (groups_bytes order rest vs)

  -- the dimension with the declared block length, even without entries, and then the block, groups and data of each
  -- entry
  pub group_bytes : Order → Group → GroupVal → Option (List ℕ)
  group_bytes order (Group' dim level) v =
      entries_bytes order dim (out-Level level).block_length
      (λ entry. both (block_bytes order (out-Level level).block_length (out-Level level).fields (out-Block entry).fields) (tail_bytes order level entry)) (entries_in v)

-- ---- a message

-- the body of a message of this root
abbrev pub root_bytes : WireSchema → Block → Option Level → Option (List ℕ)
root_bytes schema block None = None
root_bytes schema block (Some level) =
    both (named_bytes schema.order (header_numbers schema level) 0 schema.header.members)
    (both (block_bytes schema.order (out-Level level).block_length (out-Level level).fields (out-Block block).fields) (tail_bytes schema.order level block))

-- the header, the root's block, its groups and its data, if each value has bytes
unfoldable pub canonical : WireSchema → Msg → Option (List ℕ)
canonical schema m = root_bytes schema m.block (slice_get schema.messages m.template)
