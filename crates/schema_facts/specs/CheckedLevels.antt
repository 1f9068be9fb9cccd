-- What holds of each level of a checked schema. From SBE 1.0, "Message structure", "Repeating group encoding" and
-- "Schema extension mechanism"; the limits, and that every entry takes a byte, are own profile.
use Rattle.std.specs.Prelude.{◌≡◌, ◌≢◌, ℕ, suc, ◌+◌, ◌≤◌, max, true, false, if◌then◌else◌, Option, Some, None, List, [], ◌∷◌, ◌++◌, map, length, unwrap_or, codes, ⊤, AllPairs}
use Rattle.std.specs.List.{AllByRecursion}
use Rattle.sbe_types.specs.declared.limits.TheConstants.{PLACE_LIMIT, PART_LIMIT}
use Rattle.sbe_types.specs.declared.kind.Leaf.{Leaf}
use Rattle.sbe_types.specs.declared.kind.Kind.{Comp}
use Rattle.sbe_types.specs.declared.kind.Member.{Member}
use Rattle.sbe_types.specs.declared.schema.Field.{Field}
use Rattle.sbe_types.specs.declared.schema.DataField.{DataField}
use Rattle.sbe_types.specs.declared.schema.Group.{Group, Group', out-Group}
use Rattle.sbe_types.specs.declared.schema.Level.{Level, Level', out-Level, Row_of-Group, end_of-Group, more_of-Group}
use Rattle.sbe_types.specs.InForm.{IsName}
use Rattle.sbe_types.specs.Places.{is_const, fields_end}
use Rattle.sbe_wire.specs.Versions.{floor}
use Rattle.schema_rules.specs.Counters.{is_dimension, holds}
use Rattle.schema_rules.specs.TypeRules.{is_constant}
use Rattle.schema_facts.specs.Entries.{entry_least}
use Rattle.schema_facts.specs.InOrder.{IsLeafInOrder, IsKindInOrder, IsCompositeInOrder}
use Rattle.schema_facts.specs.Levels.{Node}
use Rattle.schema_facts.specs.Measured.{IsSmall}

-- ---- names

-- The name of the level of a group's entries.
abbrev pub group_name : Group → List ℕ
group_name g = (out-Level (out-Group g).level).name

-- The names of the fields, groups and data of a level, in this order.
abbrev pub part_names : Level → List (List ℕ)
part_names level =
    map (λ (f : Field). f.name) (out-Level level).fields
    ++ (map group_name (out-Level level).groups ++ map (λ (d : DataField). d.name) (out-Level level).parts)

-- A level and its parts have names, and no two parts of a level have the same one.
pub record HasNames (level : Level) : Type 0 where
  pub own : IsName (out-Level level).name
  pub parts : AllByRecursion IsName (part_names level)
  pub names_differ : AllPairs (λ a b. a ≢ b) (part_names level)

-- ---- versions

-- The effective since of the level of a group's entries.
abbrev pub group_since : Group → ℕ
group_since g = (out-Level (out-Group g).level).since

-- The effective sinces of fields, without those of constants.
abbrev pub moving_sinces : List Field → List ℕ
moving_sinces [] = []
moving_sinces (f ∷ fs) = if is_const f.kind then moving_sinces fs else f.since ∷ moving_sinces fs

-- The effective sinces of the fields, groups and data of a level, with those of constants.
abbrev pub part_sinces : Level → List ℕ
part_sinces level =
    map (λ (f : Field). f.since) (out-Level level).fields
    ++ (map group_since (out-Level level).groups ++ map (λ (d : DataField). d.since) (out-Level level).parts)

-- Each number is at least as large as the one before it, and the first is at least `least`.
abbrev pub NeverFall : ℕ → List ℕ → Type 0
NeverFall least [] = ⊤
NeverFall least (n ∷ ns) = (least ≤ n) × NeverFall n ns

-- The since is at least that of its level, and at most the schema's version.
pub record IsSinceWithin (least version since : ℕ) : Type 0 where
  pub after : least ≤ since
  pub known : since ≤ version

-- The sinces of a level's fields, constants aside, never fall, nor do those of its groups or its data, and neither that
-- of the level nor that of a part is above the schema's version.
pub record HasSinces (version : ℕ) (level : Level) : Type 0 where
  pub own : (out-Level level).since ≤ version
  pub within : AllByRecursion (IsSinceWithin (out-Level level).since version) (part_sinces level)
  pub fields : NeverFall (out-Level level).since (moving_sinces (out-Level level).fields)
  pub groups : NeverFall (out-Level level).since (map group_since (out-Level level).groups)
  pub parts : NeverFall (out-Level level).since (map (λ (d : DataField). d.since) (out-Level level).parts)

-- ---- blocks

-- The members that count a level's block: those of its dimension, or for a root those of the message header.
abbrev pub counting : List Member → Node → List Member
counting header node = unwrap_or node.dim header

-- The fields of a level end within its block, which reaches the floor of each version and is at most as long as the
-- largest offset, and its length fits its member.
pub record HasBlock (members : List Member) (level : Level) : Type 0 where
  pub whole : fields_end 0 (out-Level level).fields ≤ (out-Level level).block_length
  pub floor : (version : ℕ) → floor version (out-Level level).fields ≤ (out-Level level).block_length
  pub narrow : (out-Level level).block_length ≤ PLACE_LIMIT
  pub held : holds members (codes "blockLength") (out-Level level).block_length ≡ true

-- ---- entries

-- An entry of the level takes at least one byte at each version that has the group; nothing is required of a root.
abbrev pub TakesByte : Node → Type 0
TakesByte node = takes node.dim where
  takes : Option (List Member) → Type 0
  takes None = ⊤
  takes (Some dim) = (version : ℕ) → (out-Level node.level).since ≤ version → 1 ≤ entry_least version node.level

-- ---- kinds

-- The members of a dimension are a composite in order.
abbrev pub HasDimensionKind : Option (List Member) → Type 0
HasDimensionKind None = ⊤
HasDimensionKind (Some dim) = IsCompositeInOrder (Comp dim)

-- The kinds of a level's fields, of its dimension, and of its data's length numbers are in order.
pub record HasKinds (node : Node) : Type 0 where
  pub fields : AllByRecursion (λ (f : Field). IsKindInOrder f.kind) (out-Level node.level).fields
  pub dim : HasDimensionKind node.dim
  pub lengths : AllByRecursion (λ (d : DataField). IsLeafInOrder d.length) (out-Level node.level).parts

-- ---- dimensions

-- A dimension is exactly the numbers blockLength and numInGroup.
abbrev pub IsExact : Option (List Member) → Type 0
IsExact None = ⊤
IsExact (Some dim) = is_dimension dim ≡ true

-- ---- data

-- The length number of a data part is one uint8, uint16 or uint32, and not a constant.
pub record IsLength (leaf : Leaf) : Type 0 where
  pub small : IsSmall leaf.prim
  pub single : leaf.length ≡ 1
  pub changes : is_constant leaf.presence ≡ false

-- Each data part of a level has such a length number.
abbrev pub HasLengths : Level → Type 0
HasLengths level = AllByRecursion (λ (d : DataField). IsLength d.length) (out-Level level).parts

-- ---- counts

-- The fields, groups and data of a level together are at most the limit.
abbrev pub HasFewParts : Level → Type 0
HasFewParts level = length (out-Level level).fields + length (out-Level level).groups + length (out-Level level).parts ≤ PART_LIMIT

-- ---- nesting

unfoldable mutual
  -- The greatest number of groups below a level that are nested in one another.
  pub groups_deep : Level → ℕ
  groups_deep (Level' name id semantic since block_length fields n groups parts) = row_deep groups

  -- The same for some groups.
  pub row_deep : {n : _} → Row_of-Group n → ℕ
  row_deep end_of-Group = 0
  row_deep (more_of-Group g rest) = max (group_deep g) (row_deep rest)

  -- The same for one group, including itself.
  pub group_deep : Group → ℕ
  group_deep (Group' dim level) = suc (groups_deep level)
