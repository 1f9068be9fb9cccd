-- The values of a block's fields and data, and the entries of its groups.
use Rattle.std.specs.Prelude.{ℕ, Bool, true, false, nat_lt, if◌then◌else◌, ℤ, Option, Some, None, List, [], length, slice_get}
use Rattle.std.specs.Option.{option_and_then}
use Rattle.sbe_types.specs.declared.kind.Kind.{Kind, Leaf, Enum, Set, Const, Comp'}
use Rattle.sbe_types.specs.declared.kind.LeafShape.{LeafShape}
use Rattle.sbe_types.specs.declared.kind.LeafShape.TheVariants.{Number, RangedText, EncodedText, Octets, Numbers}
use Rattle.sbe_types.specs.declared.message.Block.{out-Block}
use Rattle.field_values.specs.Reports.{number_in, text_in}
use Rattle.flyweight_view.specs.TypedBlocks.{TypedBlock, bytes_in, typed_field, typed_group}

-- ---- kinds

-- a leaf of this shape is one number
abbrev pub is_number_shape : LeafShape → Bool
is_number_shape Number = true
is_number_shape RangedText = false
is_number_shape EncodedText = false
is_number_shape Octets = false
is_number_shape Numbers = false

-- a value of this kind is one number: an integer, an enum or a set
abbrev pub is_number_kind : Kind → Bool
is_number_kind (Leaf l) = is_number_shape l.shape
is_number_kind (Enum l names) = true
is_number_kind (Set p names) = true
is_number_kind (Const c) = false
is_number_kind (Comp' n members) = false

-- a leaf of this shape is a text
abbrev pub is_text_shape : LeafShape → Bool
is_text_shape Number = false
is_text_shape RangedText = true
is_text_shape EncodedText = true
is_text_shape Octets = false
is_text_shape Numbers = false

-- a value of this kind is a text
abbrev pub is_text_kind : Kind → Bool
is_text_kind (Leaf l) = is_text_shape l.shape
is_text_kind (Enum l names) = false
is_text_kind (Set p names) = false
is_text_kind (Const c) = false
is_text_kind (Comp' n members) = false

-- a value of this kind is a composite
abbrev pub is_composite : Kind → Bool
is_composite (Comp' n members) = true
is_composite (Leaf l) = false
is_composite (Enum l names) = false
is_composite (Set p names) = false
is_composite (Const c) = false

-- ---- values

-- the number of field i of a block, if it has one
abbrev pub number_at : ℕ → TypedBlock → Option ℤ
number_at i block = if nat_lt i (length block.fields) then option_and_then number_in (slice_get (out-Block block.block).fields i) else None

-- the text of field i of a block, if it has one
abbrev pub text_at : ℕ → TypedBlock → Option (List ℕ)
text_at i block = if nat_lt i (length block.fields) then option_and_then text_in (slice_get (out-Block block.block).fields i) else None

-- the members of field i of a block, if it is a composite with a value
abbrev pub composite_at : ℕ → TypedBlock → Option TypedBlock
composite_at i block = typed_field (slice_get block.fields i) (slice_get (out-Block block.block).fields i)

-- the bytes of data part i of a block, if it is there
abbrev pub data_at : ℕ → TypedBlock → Option (List ℕ)
data_at i block = if nat_lt i (length block.parts) then option_and_then bytes_in (slice_get (out-Block block.block).parts i) else None

-- ---- entries

-- the entries of a group; none if it is absent
abbrev pub all_entries : Option (Option (List TypedBlock)) → List TypedBlock
all_entries None = []
all_entries (Some None) = []
all_entries (Some (Some es)) = es

-- the entries of group number `group` of a block
abbrev pub group_entries : ℕ → TypedBlock → List TypedBlock
group_entries group block = all_entries (typed_group (slice_get block.groups group) (slice_get (out-Block block.block).groups group))
