-- What layers above may rely on about a kind of a checked schema: its numbers, its names, its offsets and its size.
-- From SBE 1.0, "Field encoding"; the limits are own profile.
use Rattle.std.specs.Prelude.{◌≡◌, ◌≢◌, ℕ, suc, ◌+◌, ◌*◌, ◌≤◌, ◌<◌, max, int_le, true, false, List, [], ◌∷◌, map, length, ⊤, ℤ, pos, negsuc, AllPairs, Ok}
use Rattle.std.specs.List.{AllByRecursion}
use Rattle.sbe_types.specs.declared.limits.TheConstants.{LENGTH_LIMIT, PLACE_LIMIT, MEMBER_LIMIT, VALUE_LIMIT}
use Rattle.sbe_types.specs.declared.kind.Primitive.{Primitive}
use Rattle.sbe_types.specs.declared.kind.Primitive.TheVariants.{Char, U8}
use Rattle.sbe_types.specs.declared.kind.LeafShape.{LeafShape}
use Rattle.sbe_types.specs.declared.kind.LeafShape.TheVariants.{Number, RangedText, EncodedText, Octets, Numbers}
use Rattle.sbe_types.specs.declared.kind.Leaf.{Leaf as LeafOf}
use Rattle.sbe_types.specs.declared.kind.Named.{Named}
use Rattle.sbe_types.specs.declared.kind.ConstValue.{ConstValue}
use Rattle.sbe_types.specs.declared.kind.ConstValue.TheVariants as value
use Rattle.sbe_types.specs.declared.kind.Kind.{Kind, Leaf, Enum, Set, Const, Comp', Row_of-Member, end_of-Member, more_of-Member}
use Rattle.sbe_types.specs.declared.tree.TypesItem.{TypesItem}
use Rattle.sbe_types.specs.InForm.{IsName, IsDeclaredInForm}
use Rattle.sbe_types.specs.Numbers.{prim_width}
use Rattle.sbe_types.specs.Places.{width}
use Rattle.sbe_wire.specs.Placed.{IsPlacedKind}
use Rattle.schema_rules.specs.Ranges.{is_number_of}
use Rattle.schema_rules.specs.TypeRules.{is_constant, is_enum_primitive, is_set_primitive}
use Rattle.schema_rules.specs.CompositeRules.{most_leaves, most_composites, types_check}
use Rattle.schema_facts.specs.Measured.{IsNarrow, IsSmall}

-- ---- leaves

-- The shape of a leaf of n primitives: a number is one of them; only chars are a text, and only uint8 are octets.
abbrev pub IsShapeOf : LeafShape → Primitive → ℕ → Type 0
IsShapeOf Number prim n = n ≡ 1
IsShapeOf RangedText prim n = (prim ≡ Char) × (n ≢ 1)
IsShapeOf EncodedText prim n = (prim ≡ Char) × (n ≢ 1)
IsShapeOf Octets prim n = (prim ≡ U8) × (n ≢ 1)
IsShapeOf Numbers prim n = (prim ≢ Char) × (n ≢ 1)

-- A leaf of at least n primitives: its null and its range are numbers of the primitive, its shape fits, and it isn't a
-- constant.
pub record IsLeafFrom (n : ℕ) (l : LeafOf) : Type 0 where
  pub null : is_number_of l.prim l.null ≡ true
  pub low : is_number_of l.prim l.low ≡ true
  pub high : is_number_of l.prim l.high ≡ true
  pub range : int_le l.low l.high ≡ true
  pub least : n ≤ l.length
  pub most : l.length ≤ LENGTH_LIMIT
  pub shape : IsShapeOf l.shape l.prim l.length
  pub presence : is_constant l.presence ≡ false

-- a leaf of at least one primitive
abbrev pub IsLeafInOrder : LeafOf → Type 0
IsLeafInOrder l = IsLeafFrom 1 l

-- ---- listed values

-- a number of the primitive, whatever its range
abbrev pub IsNumberOf : Primitive → ℤ → Type 0
IsNumberOf prim n = is_number_of prim n ≡ true

-- a bit of a number of `bytes` bytes
abbrev pub IsBitOf : ℕ → ℤ → Type 0
IsBitOf bytes (pos bit) = bit < 8 * bytes
IsBitOf bytes (negsuc n) = ⊥

-- Named numbers for each of which `IsIn` holds; no two have the same name, and no two the same number.
pub record AreListed (IsIn : ℤ → Type 0) (values : List Named) : Type 0 where
  pub names : AllByRecursion (λ (v : Named). IsName v.name) values
  pub numbers : AllByRecursion (λ (v : Named). IsIn v.number) values
  pub names_differ : AllPairs (λ a b. a ≢ b) (map (λ (v : Named). v.name) values)
  pub numbers_differ : AllPairs (λ a b. a ≢ b) (map (λ (v : Named). v.number) values)

-- an enum's encoding is one char, uint8 or uint16, and its valid values are numbers of it
pub record IsEnumInOrder (l : LeafOf) (values : List Named) : Type 0 where
  pub leaf : IsLeafInOrder l
  pub single : l.length ≡ 1
  pub encoding : is_enum_primitive l.prim ≡ true
  pub some : 1 ≤ length values
  pub few : length values ≤ VALUE_LIMIT
  pub listed : AreListed (IsNumberOf l.prim) values

-- a set's encoding is one uint8, uint16, uint32 or uint64, and its choices are bits of it
pub record IsSetInOrder (prim : Primitive) (choices : List Named) : Type 0 where
  pub encoding : is_set_primitive prim ≡ true
  pub listed : AreListed (IsBitOf (prim_width prim)) choices

-- ---- constants

-- a valid value of an enum with this encoding
pub record IsCodeInOrder (prim : Primitive) (v : Named) : Type 0 where
  pub encoding : is_enum_primitive prim ≡ true
  pub name : IsName v.name
  pub number : IsNumberOf prim v.number

-- the number of a constant is one of a primitive
abbrev pub IsConstantInOrder : ConstValue → Type 0
IsConstantInOrder (value.Num n) = (prim : Primitive) × IsNumberOf prim n
IsConstantInOrder (value.Text text) = ⊤
IsConstantInOrder (value.Code prim v) = IsCodeInOrder prim v

-- ---- kinds

-- the names of a composite's members
abbrev pub names_in : {n : _} → Row_of-Member n → List (List ℕ)
names_in end_of-Member = []
names_in (more_of-Member name offset kind rest) = name ∷ names_in rest

-- A composite has at most as many members as the limit, their names have their form, no two are the same, and the kinds
-- of the members are in order.
pub record IsCompositeOf (all : List (List ℕ)) (AreKinds : Type 0) : Type 0 where
  pub few : length all ≤ MEMBER_LIMIT
  pub names : AllByRecursion IsName all
  pub names_differ : AllPairs (λ a b. a ≢ b) all
  pub kinds : AreKinds

abbrev mutual
  -- A kind whose parts are in order, and whose leaves each have at least `least` primitives.
  pub IsKindFrom : ℕ → Kind → Type 0
  IsKindFrom least (Leaf l) = IsLeafFrom least l
  IsKindFrom least (Enum l values) = IsEnumInOrder l values
  IsKindFrom least (Set prim choices) = IsSetInOrder prim choices
  IsKindFrom least (Const c) = IsConstantInOrder c
  IsKindFrom least (Comp' n members) = IsCompositeOf (names_in members) (AreKindsFrom least members)

  -- the same for the kinds of members
  pub AreKindsFrom : ℕ → {n : _} → Row_of-Member n → Type 0
  AreKindsFrom least end_of-Member = ⊤
  AreKindsFrom least (more_of-Member name offset kind rest) = IsKindFrom least kind × AreKindsFrom least rest

abbrev mutual
  -- how many leaves a kind has: every part that isn't a composite, constants included
  pub leaves : Kind → ℕ
  leaves (Leaf l) = 1
  leaves (Enum l values) = 1
  leaves (Set prim choices) = 1
  leaves (Const c) = 1
  leaves (Comp' n members) = leaves_in members

  -- the same for members
  pub leaves_in : {n : _} → Row_of-Member n → ℕ
  leaves_in end_of-Member = 0
  leaves_in (more_of-Member name offset kind rest) = leaves kind + leaves_in rest

abbrev mutual
  -- how many composites are nested in one another
  pub height : Kind → ℕ
  height (Leaf l) = 0
  height (Enum l values) = 0
  height (Set prim choices) = 0
  height (Const c) = 0
  height (Comp' n members) = suc (height_of members)

  -- the greatest height of a member
  pub height_of : {n : _} → Row_of-Member n → ℕ
  height_of end_of-Member = 0
  height_of (more_of-Member name offset kind rest) = max (height kind) (height_of rest)

-- A kind as a whole: each of its parts follows the one before it, they end within the largest offset, and it keeps the
-- limits.
pub record IsKindWithin (kind : Kind) : Type 0 where
  pub leaves : leaves kind ≤ most_leaves
  pub height : height kind ≤ most_composites
  pub placed : IsPlacedKind kind
  pub narrow : IsNarrow kind
  pub width : width kind ≤ PLACE_LIMIT

-- A composite; its members may have length 0, as one of a data type has.
pub record IsCompositeInOrder (kind : Kind) : Type 0 where
  pub parts : IsKindFrom 0 kind
  pub within : IsKindWithin kind

-- The kind of a field: none of its leaves is empty.
pub record IsKindInOrder (kind : Kind) : Type 0 where
  pub parts : IsKindFrom 1 kind
  pub within : IsKindWithin kind

-- ---- the rules

-- declared types that keep the rules
pub record AreAccepted (types : List TypesItem) : Type 0 where
  pub judged : types_check types [] types ≡ Ok tt
  pub form : AllByRecursion IsDeclaredInForm types

-- ---- the counters of the wire

-- the length number of a data part: one uint8, uint16 or uint32
pub record IsLengthInOrder (l : LeafOf) : Type 0 where
  pub leaf : IsLeafInOrder l
  pub single : l.length ≡ 1
  pub small : IsSmall l.prim
