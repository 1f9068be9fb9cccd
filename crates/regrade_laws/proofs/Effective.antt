-- Levels of which each part is effective by a version, as in a checked schema by its own.
use Rattle.std.specs.Prelude.{◌≡◌, ℕ, true, List, [], ◌∷◌, slice_get, Some, ⊤}
use Rattle.sbe_types.specs.declared.schema.Field.{Field}
use Rattle.sbe_types.specs.declared.schema.DataField.{DataField}
use Rattle.sbe_types.specs.declared.schema.Group.{Group, Group'}
use Rattle.sbe_types.specs.declared.schema.Level.{Level, Level', Row_of-Group, end_of-Group, more_of-Group}
use Rattle.sbe_types.specs.declared.schema.WireSchema.{WireSchema}
use Rattle.version_laws.specs.Differ.{is_old, group_since}

-- each of these fields is effective
abbrev pub FieldsEffective : ℕ → List Field → Type 0
FieldsEffective version [] = ⊤
FieldsEffective version (f ∷ fs) = (is_old version f.since ≡ true) × FieldsEffective version fs

-- each of these data
abbrev pub PartsEffective : ℕ → List DataField → Type 0
PartsEffective version [] = ⊤
PartsEffective version (p ∷ ps) = (is_old version p.since ≡ true) × PartsEffective version ps

abbrev mutual
  -- each part of a level, and of the levels of its groups
  pub IsEffective : ℕ → Level → Type 0
  IsEffective version (Level' _ _ _ _ _ fields _ groups parts) = FieldsEffective version fields × GroupsEffective version groups × PartsEffective version parts

  -- the same of groups
  pub GroupsEffective : ℕ → {n : _} → Row_of-Group n → Type 0
  GroupsEffective version end_of-Group = ⊤
  GroupsEffective version (more_of-Group g gs) = (is_old version (group_since g) ≡ true) × GroupEffective version g × GroupsEffective version gs

  -- the same inside a group
  pub GroupEffective : ℕ → Group → Type 0
  GroupEffective version (Group' dim level) = IsEffective version level

-- Each part of a schema is effective by its own version.
abbrev pub IsWholly : WireSchema → Type 0
IsWholly schema = (i : ℕ) (level : Level) → slice_get schema.messages i ≡ Some level → IsEffective schema.version level
