-- The block of a level before any of its fields is set. From SBE 1.0, Field encoding. Own profile: which fields are
-- null at that point.
use Rattle.std.specs.Prelude.{ℕ, ◌-◌, ◌&&◌, Bool, true, false, if◌then◌else◌, Option, Some, option_map, List, [], ◌∷◌, replicate}
use Rattle.sbe_types.specs.declared.kind.Order.{Order}
use Rattle.sbe_types.specs.declared.kind.LeafShape.{LeafShape}
use Rattle.sbe_types.specs.declared.kind.LeafShape.TheVariants.{Number, RangedText, EncodedText, Octets, Numbers}
use Rattle.sbe_types.specs.declared.kind.Kind.{Kind, Leaf, Enum, Set, Const, Comp'}
use Rattle.sbe_types.specs.declared.schema.Field.{Field}
use Rattle.sbe_types.specs.declared.message.Elem.TheVariants as elem
use Rattle.sbe_types.specs.Numbers.{prim_width, bytes_of}
use Rattle.sbe_types.specs.Places.{width, is_const, begin_of, end_past}
use Rattle.sbe_types.specs.Shown.{is_optional}
use Rattle.sbe_types.specs.Wire.{both, padded, elements_bytes}

-- the leaf is a number or an array of numbers, not a text or octets
abbrev pub has_null_elements : LeafShape → Bool
has_null_elements Number = true
has_null_elements Numbers = true
has_null_elements RangedText = false
has_null_elements EncodedText = false
has_null_elements Octets = false

-- Optional numbers, each element of optional arrays of numbers, and optional enums are null. Everything else is 00; so
-- are a null text, and all bytes of a composite.
abbrev pub empty_bytes : Order → Kind → Option (List ℕ)
empty_bytes order (Leaf l) = if is_optional l.presence && has_null_elements l.shape then elements_bytes order l (replicate l.length elem.Null) else Some (replicate (width (Leaf l)) 0)
empty_bytes order (Enum l names) = if is_optional l.presence then bytes_of order l.prim l.null else Some (replicate (prim_width l.prim) 0)
empty_bytes order (Set p names) = Some (replicate (prim_width p) 0)
empty_bytes order (Const c) = Some []
empty_bytes order (Comp' n members) = Some (replicate (width (Comp' n members)) 0)

-- a field after fields that end at e: 00 up to its offset, and its bytes
abbrev pub empty_field : Order → ℕ → Field → Option (List ℕ)
empty_field order e f = both (Some (replicate (if is_const f.kind then 0 else begin_of e f.offset - e) 0)) (empty_bytes order f.kind)

-- fields after fields that end at e
abbrev pub empty_fields : Order → ℕ → List Field → Option (List ℕ)
empty_fields order e [] = Some []
empty_fields order e (f ∷ fs) = both (empty_field order e f) (empty_fields order (end_past e f.offset f.kind) fs)

-- the fields, padded with 00 to the block length
abbrev pub empty_block : Order → ℕ → List Field → Option (List ℕ)
empty_block order block_length fields = option_map (padded block_length) (empty_fields order 0 fields)
