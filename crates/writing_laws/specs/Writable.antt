-- What the laws of writing require of a schema, and the check ensures: each number that a part can have has bytes
-- there. From SBE 1.0, Field encoding, Message structure and Repeating group encoding.
use Rattle.std.specs.Prelude.{◌≡◌, ◌≤◌, ◌<◌, ℕ, ◌^◌, false, true, Some, None, List, [], ◌∷◌, ⊤, ℤ, pos, slice_get, codes}
use Rattle.sbe_types.specs.declared.kind.LeafShape.TheVariants.{Number}
use Rattle.sbe_types.specs.declared.kind.Leaf.{Leaf as LeafOf}
use Rattle.sbe_types.specs.declared.kind.Primitive.{Primitive}
use Rattle.sbe_types.specs.declared.kind.Named.{Named}
use Rattle.sbe_types.specs.declared.kind.Kind.{Kind, Leaf, Enum, Set, Const, Comp', Row_of-Member, end_of-Member, more_of-Member}
use Rattle.sbe_types.specs.declared.kind.Member.{Member}
use Rattle.sbe_types.specs.declared.schema.Field.{Field}
use Rattle.sbe_types.specs.declared.schema.DataField.{DataField}
use Rattle.sbe_types.specs.declared.schema.Group.{Group, Group'}
use Rattle.sbe_types.specs.declared.schema.Level.{Level, Level', out-Level, Row_of-Group, end_of-Group, more_of-Group}
use Rattle.sbe_types.specs.declared.schema.WireSchema.{WireSchema}
use Rattle.sbe_types.specs.declared.message.Value.TheVariants as value
use Rattle.sbe_types.specs.Numbers.{unsigned_of, is_signed, prim_width}
use Rattle.sbe_types.specs.Places.{begin_of, end_past, fields_end}
use Rattle.sbe_types.specs.Shown.{admits, is_listed, is_octets}
use Rattle.sbe_wire.specs.Named.{Spot, spot_named, is_admitted}
use Rattle.sbe_wire.specs.Canonical.{dimension_numbers, header_numbers}
use Rattle.sbe_wire.specs.Misfit.{set_misfit}

-- ---- kinds

-- the number is one of the primitive
abbrev pub HasNumber : Primitive → ℤ → Type 0
HasNumber prim n = (m : ℕ) × (unsigned_of (is_signed prim) (256 ^ prim_width prim) n ≡ Some m)

-- The null and each number that is admitted are numbers of the leaf's primitive, and a single number is one primitive.
pub record IsWritableLeaf (leaf : LeafOf) : Type 0 where
  pub admitted : (n : ℤ) → admits leaf n ≡ true → HasNumber leaf.prim n
  pub null : HasNumber leaf.prim leaf.null
  pub single : leaf.shape ≡ Number → leaf.length ≡ 1

-- The null and each valid value are numbers of the enum's primitive, and its leaf isn't octets.
pub record IsWritableEnum (leaf : LeafOf) (names : List Named) : Type 0 where
  pub listed : (n : ℤ) → is_listed names n ≡ true → HasNumber leaf.prim n
  pub null : HasNumber leaf.prim leaf.null
  pub plain : is_octets leaf.shape ≡ false

-- The set's primitive is unsigned, and each set of choices is one of its numbers.
pub record IsWritableSet (prim : Primitive) (names : List Named) : Type 0 where
  pub unsigned : is_signed prim ≡ false
  pub choices : (n : ℕ) → set_misfit names (value.Set n) ≡ None → HasNumber prim (pos n)

abbrev mutual
  -- each number that a value of this kind can have has bytes
  pub IsWritableKind : Kind → Type 0
  IsWritableKind (Leaf l) = IsWritableLeaf l
  IsWritableKind (Enum l names) = IsWritableEnum l names
  IsWritableKind (Set p names) = IsWritableSet p names
  IsWritableKind (Const c) = ⊤
  IsWritableKind (Comp' n members) = IsWritableRow members

  -- the same for members
  pub IsWritableRow : {n : _} → Row_of-Member n → Type 0
  IsWritableRow end_of-Member = ⊤
  IsWritableRow (more_of-Member name offset kind rest) = IsWritableKind kind × IsWritableRow rest

-- ---- numbers by name: the header, and dimensions

-- A member is one number of its primitive, begins at e or later, and can hold n.
pub record IsRoomFor (e n : ℕ) (m : Member) : Type 0 where
  pub leaf : LeafOf
  pub number : m.kind ≡ Leaf leaf
  pub single : leaf.length ≡ 1
  pub after : e ≤ begin_of e m.offset
  pub room : HasNumber leaf.prim (pos n)

-- members after members that end at e, each of which can hold the number of its name
abbrev pub HoldNumbers : (List ℕ → ℕ) → ℕ → List Member → Type 0
HoldNumbers numbers e [] = ⊤
HoldNumbers numbers e (m ∷ ms) = IsRoomFor e (numbers m.name) m × HoldNumbers numbers (end_past e m.offset m.kind) ms

-- the members have a number with this name
abbrev pub HasNamed : List Member → List ℕ → Type 0
HasNamed members name = (spot : Spot) × (spot_named 0 name members ≡ Some spot)

-- A dimension can hold this block length and each count that it admits, which is below 2^32.
pub record IsWritableDimension (dim : List Member) (length : ℕ) : Type 0 where
  pub holds : (count : ℕ) → is_admitted dim (codes "numInGroup") count ≡ true → HoldNumbers (dimension_numbers length count) 0 dim
  pub block : HasNamed dim (codes "blockLength")
  pub few : (count : ℕ) → is_admitted dim (codes "numInGroup") count ≡ true → count < 2 ^ 32

-- ---- levels, at a version

-- the numbers of each field have bytes, and the field is known at the version
abbrev pub AreWritableFields : ℕ → List Field → Type 0
AreWritableFields version [] = ⊤
AreWritableFields version (f ∷ fs) = IsWritableKind f.kind × (f.since ≤ version) × AreWritableFields version fs

-- The length number of a data part has bytes for each length that is admitted, and the part is known at the version.
pub record IsWritablePart (version : ℕ) (part : DataField) : Type 0 where
  pub known : part.since ≤ version
  pub admitted : (n : ℕ) → admits part.length (pos n) ≡ true → HasNumber part.length.prim (pos n)

-- each data part is writable
abbrev pub AreWritableParts : ℕ → List DataField → Type 0
AreWritableParts version [] = ⊤
AreWritableParts version (p ∷ ps) = IsWritablePart version p × AreWritableParts version ps

abbrev mutual
  -- the fields end within the declared block, and each part is writable
  pub IsWritableLevel : ℕ → Level → Type 0
  IsWritableLevel version (Level' name id semantic since block_length fields _ groups parts) =
      AreWritableFields version fields × (fields_end 0 fields ≤ block_length) × AreWritableGroups version groups × AreWritableParts version parts

  -- each group is writable
  pub AreWritableGroups : ℕ → {n : _} → Row_of-Group n → Type 0
  AreWritableGroups version end_of-Group = ⊤
  AreWritableGroups version (more_of-Group g rest) = IsWritableGroup version g × AreWritableGroups version rest

  -- the group is known at the version, its dimension can hold its numbers, and the level of its entries is writable
  pub IsWritableGroup : ℕ → Group → Type 0
  IsWritableGroup version (Group' dim level) =
      ((out-Level level).since ≤ version) × IsWritableDimension dim (out-Level level).block_length × IsWritableLevel version level

-- ---- a schema

-- The levels of each message are writable at the schema's version, and the header can hold the numbers of each message.
pub record IsWritable (schema : WireSchema) : Type 0 where
  pub levels : (i : ℕ) (level : Level) → slice_get schema.messages i ≡ Some level → IsWritableLevel schema.version level
  pub header : (i : ℕ) (level : Level) → slice_get schema.messages i ≡ Some level → HoldNumbers (header_numbers schema level) 0 schema.header.members
  pub block : HasNamed schema.header.members (codes "blockLength")
  pub template : HasNamed schema.header.members (codes "templateId")
  pub id : HasNamed schema.header.members (codes "schemaId")
  pub version : HasNamed schema.header.members (codes "version")
