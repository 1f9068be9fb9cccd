-- What the laws require of a schema, and the check ensures: no part begins before the end of the one before it, and no
-- two messages have the same id. Own profile.
use Rattle.std.specs.Prelude.{◌≡◌, ℕ, ◌+◌, ◌≤◌, false, if◌then◌else◌, Option, Some, List, [], ◌∷◌, ⊤, slice_get}
use Rattle.sbe_types.specs.declared.kind.Kind.{Kind, Leaf, Enum, Set, Const, Comp', Row_of-Member, end_of-Member, more_of-Member}
use Rattle.sbe_types.specs.declared.schema.Field.{Field}
use Rattle.sbe_types.specs.declared.schema.Group.{Group, Group'}
use Rattle.sbe_types.specs.declared.schema.Level.{Level, Level', out-Level, Row_of-Group, end_of-Group, more_of-Group}
use Rattle.sbe_types.specs.declared.schema.WireSchema.{WireSchema}
use Rattle.sbe_types.specs.Places.{width, is_const, begin_of, end_past}
use Rattle.sbe_wire.specs.Faults.{message_named}

-- a part that takes bytes begins at e or later
abbrev pub BeginsBehind : ℕ → Option ℕ → Kind → Type 0
BeginsBehind e offset kind = is_const kind ≡ false → e ≤ begin_of e offset

abbrev mutual
  -- the members of a composite are placed
  pub IsPlacedKind : Kind → Type 0
  IsPlacedKind (Leaf l) = ⊤
  IsPlacedKind (Enum l names) = ⊤
  IsPlacedKind (Set p names) = ⊤
  IsPlacedKind (Const c) = ⊤
  IsPlacedKind (Comp' n members) = IsPlacedRow 0 members

  -- each member begins at the end of those before it, which is e, or later
  pub IsPlacedRow : ℕ → {n : _} → Row_of-Member n → Type 0
  IsPlacedRow e end_of-Member = ⊤
  IsPlacedRow e (more_of-Member name offset kind rest) =
      BeginsBehind e offset kind × IsPlacedKind kind × IsPlacedRow (if is_const kind then e else begin_of e offset + width kind) rest

-- each field begins at the end of those before it, which is e, or later
abbrev pub ArePlaced : ℕ → List Field → Type 0
ArePlaced e [] = ⊤
ArePlaced e (f ∷ fs) = BeginsBehind e f.offset f.kind × IsPlacedKind f.kind × ArePlaced (end_past e f.offset f.kind) fs

abbrev mutual
  -- the fields of a level are placed, and those of its groups
  pub IsPlacedLevel : Level → Type 0
  IsPlacedLevel (Level' name id semantic since block_length fields _ groups parts) = ArePlaced 0 fields × ArePlacedGroups groups

  -- each group is placed
  pub ArePlacedGroups : {n : _} → Row_of-Group n → Type 0
  ArePlacedGroups end_of-Group = ⊤
  ArePlacedGroups (more_of-Group g rest) = IsPlacedGroup g × ArePlacedGroups rest

  -- the level of a group is placed
  pub IsPlacedGroup : Group → Type 0
  IsPlacedGroup (Group' dim level) = IsPlacedLevel level

-- each message is placed, and is the first with its id
pub record IsPlaced (schema : WireSchema) : Type 0 where
  pub levels : (i : ℕ) (level : Level) → slice_get schema.messages i ≡ Some level → IsPlacedLevel level
  pub ids : (i : ℕ) (level : Level) → slice_get schema.messages i ≡ Some level → message_named 0 (out-Level level).id schema.messages ≡ Some (i, level)
