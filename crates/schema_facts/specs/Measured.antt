-- What a layout requires of a schema, and the check ensures: no part ends after the largest offset, and the header and
-- each dimension have their numbers. From SBE 1.0, Message structure and Repeating group encoding; the limit is own
-- profile.
use Rattle.std.specs.Prelude.{◌≡◌, ℕ, ◌+◌, ◌*◌, ◌≤◌, false, if◌then◌else◌, Option, Some, None, List, [], ◌∷◌, ⊤, codes}
use Rattle.sbe_types.specs.declared.kind.Kind.{Kind, Leaf, Enum, Set, Const, Comp, Comp', Row_of-Member, end_of-Member, more_of-Member}
use Rattle.sbe_types.specs.declared.limits.TheConstants.{PLACE_LIMIT}
use Rattle.sbe_types.specs.declared.kind.Member.{Member}
use Rattle.sbe_types.specs.declared.kind.Primitive.{Primitive}
use Rattle.sbe_types.specs.declared.kind.Primitive.TheVariants.{Char, I8, I16, I32, I64, U8, U16, U32, U64}
use Rattle.sbe_types.specs.declared.schema.Field.{Field}
use Rattle.sbe_types.specs.declared.schema.Level.{out-Level}
use Rattle.sbe_types.specs.declared.schema.WireSchema.{WireSchema}
use Rattle.sbe_types.specs.Numbers.{prim_width}
use Rattle.sbe_types.specs.Places.{width, is_const, begin_of, end_past, members_end}
use Rattle.sbe_wire.specs.Named.{Spot, spot_named}
use Rattle.schema_facts.specs.Levels.{Node, all_nodes}

-- the largest offset: no part ends after it
abbrev pub largest : ℕ
largest = PLACE_LIMIT

-- a part after parts that end at e doesn't end after the largest offset
abbrev pub EndsWithin : ℕ → Option ℕ → Kind → Type 0
EndsWithin e offset kind = is_const kind ≡ false → begin_of e offset + width kind ≤ largest

abbrev mutual
  -- a kind and its members end within the largest offset
  pub IsNarrow : Kind → Type 0
  IsNarrow (Leaf l) = prim_width l.prim * l.length ≤ largest
  IsNarrow (Enum l names) = ⊤
  IsNarrow (Set p names) = ⊤
  IsNarrow (Const c) = ⊤
  IsNarrow (Comp' n members) = IsNarrowRow 0 members

  -- members after members that end at e end within the largest offset
  pub IsNarrowRow : ℕ → {n : _} → Row_of-Member n → Type 0
  IsNarrowRow e end_of-Member = ⊤
  IsNarrowRow e (more_of-Member name offset kind rest) =
      IsNarrow kind × EndsWithin e offset kind × IsNarrowRow (if is_const kind then e else begin_of e offset + width kind) rest

-- fields after fields that end at e end within the largest offset
abbrev pub AreNarrowFields : ℕ → List Field → Type 0
AreNarrowFields e [] = ⊤
AreNarrowFields e (f ∷ fs) = IsNarrow f.kind × EndsWithin e f.offset f.kind × AreNarrowFields (end_past e f.offset f.kind) fs

-- the unsigned types of at most four bytes
abbrev pub IsSmall : Primitive → Type 0
IsSmall U8 = ⊤
IsSmall U16 = ⊤
IsSmall U32 = ⊤
IsSmall U64 = ⊥
IsSmall Char = ⊥
IsSmall I8 = ⊥
IsSmall I16 = ⊥
IsSmall I32 = ⊥
IsSmall I64 = ⊥

-- the number is within the first `wide` bytes, and is a small one
pub record IsCounter (wide : ℕ) (spot : Spot) : Type 0 where
  pub small : IsSmall spot.leaf.prim
  pub inside : spot.place + prim_width spot.leaf.prim ≤ wide

-- the members have such a number with this name
abbrev pub HasCounter : List Member → List ℕ → Type 0
HasCounter members name = (spot : Spot) × (spot_named 0 name members ≡ Some spot) × IsCounter (members_end 0 members) spot

-- the members of a dimension
pub record IsDimension (dim : List Member) : Type 0 where
  pub narrow : IsNarrow (Comp dim)
  pub block : HasCounter dim (codes "blockLength")
  pub count : HasCounter dim (codes "numInGroup")

-- the members of a header
pub record IsHeader (members : List Member) : Type 0 where
  pub narrow : IsNarrow (Comp members)
  pub block : HasCounter members (codes "blockLength")
  pub template : HasCounter members (codes "templateId")
  pub schema : HasCounter members (codes "schemaId")
  pub version : HasCounter members (codes "version")

-- a group has a dimension
abbrev pub HasDimension : Option (List Member) → Type 0
HasDimension None = ⊤
HasDimension (Some dim) = IsDimension dim

-- what is required of a level
pub record IsMeasuredLevel (node : Node) : Type 0 where
  pub fields : AreNarrowFields 0 (out-Level node.level).fields
  pub dim : HasDimension node.dim

-- what is required of some levels
abbrev pub AreMeasured : List Node → Type 0
AreMeasured [] = ⊤
AreMeasured (n ∷ ns) = IsMeasuredLevel n × AreMeasured ns

-- what is required of a schema
pub record IsMeasured (schema : WireSchema) : Type 0 where
  pub header : IsHeader schema.header.members
  pub levels : AreMeasured (all_nodes schema)
