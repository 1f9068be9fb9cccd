-- The kinds of a level's fields, and of those at each depth of its groups.
use Rattle.std.specs.Prelude.{⊤}
use Rattle.std.specs.List.{All}
use Rattle.sbe_types.specs.declared.schema.Field.{Field}
use Rattle.sbe_types.specs.declared.schema.Group.{Group, Group'}
use Rattle.sbe_types.specs.declared.schema.Level.{Level, Level', Row_of-Group, end_of-Group, more_of-Group}
use Rattle.schema_facts.specs.InOrder.{IsKindFrom}

-- the kind of a field is in order
abbrev pub HasKind : Field → Type 0
HasKind f = IsKindFrom 1 f.kind

abbrev mutual
  -- the kinds of all fields of a level and of its groups are in order
  pub HasKindsInOrder : Level → Type 0
  HasKindsInOrder (Level' name id semantic since block_length fields _ groups parts) = All HasKind fields × GroupsHaveKinds groups

  -- the same for groups
  pub GroupsHaveKinds : {n : _} → Row_of-Group n → Type 0
  GroupsHaveKinds end_of-Group = ⊤
  GroupsHaveKinds (more_of-Group g rest) = GroupHasKinds g × GroupsHaveKinds rest

  -- the same for a group
  pub GroupHasKinds : Group → Type 0
  GroupHasKinds (Group' dim level) = HasKindsInOrder level
