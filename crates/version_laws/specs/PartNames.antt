-- The names of the parts that are effective at a version, at each level, in order.
use Rattle.std.specs.Prelude.{◌≡◌, ℕ, map, Bool, if◌then◌else◌, List, [], ◌∷◌, ⊤}
use Rattle.std.specs.Bool.{MatchBool}
use Rattle.sbe_types.specs.declared.schema.Field.{Field}
use Rattle.sbe_types.specs.declared.schema.DataField.{DataField}
use Rattle.sbe_types.specs.declared.schema.Group.{Group, Group'}
use Rattle.sbe_types.specs.declared.schema.Level.{Level, Level', Row_of-Group, end_of-Group, more_of-Group}
use Rattle.version_laws.specs.Differ.{is_old, group_name, group_since}

-- the names of the known parts
abbrev pub known_names : {P : Type 0} → (P → Bool) → (P → List ℕ) → List P → List (List ℕ)
known_names known name [] = []
known_names known name (p ∷ ps) = if known p then name p ∷ known_names known name ps else known_names known name ps

-- the names of groups
abbrev pub group_names : {n : _} → Row_of-Group n → List (List ℕ)
group_names end_of-Group = []
group_names (more_of-Group g gs) = group_name g ∷ group_names gs

-- the names of the groups that are effective at a version
abbrev pub known_group_names : ℕ → {n : _} → Row_of-Group n → List (List ℕ)
known_group_names version end_of-Group = []
known_group_names version (more_of-Group g gs) =
    if is_old version (group_since g)
    then group_name g ∷ known_group_names version gs
    else known_group_names version gs

-- new's parts that are effective at old's version are old's parts, at each level that both have
abbrev mutual
  -- the names of a level and of the groups inside it
  pub SameNames : ℕ → Level → Level → Type 0
  SameNames version (Level' _ _ _ _ _ old_fields _ old_groups old_parts) (Level' _ _ _ _ _ fields _ groups parts) =
      (known_names (λ (f : Field). is_old version f.since) (λ (f : Field). f.name) fields ≡ map (λ (f : Field). f.name) old_fields)
      × (known_group_names version groups ≡ group_names old_groups)
      × (known_names (λ (p : DataField). is_old version p.since) (λ (p : DataField). p.name) parts ≡ map (λ (p : DataField). p.name) old_parts)
      × SameNamesBelow version old_groups groups

  -- the same inside groups
  pub SameNamesBelow : ℕ → {n : _} → Row_of-Group n → {k : _} → Row_of-Group k → Type 0
  SameNamesBelow version end_of-Group end_of-Group = ⊤
  SameNamesBelow version (more_of-Group f fs) end_of-Group = ⊥
  SameNamesBelow version end_of-Group (more_of-Group g gs) = SameNamesBelow version end_of-Group gs
  SameNamesBelow version (more_of-Group f fs) (more_of-Group g gs) =
      MatchBool (is_old version (group_since g)) (SameNamesIn version f g × SameNamesBelow version fs gs) (SameNamesBelow version (more_of-Group f fs) gs)

  -- the same inside a group
  pub SameNamesIn : ℕ → Group → Group → Type 0
  SameNamesIn version (Group' old_dim old) (Group' dim level) = SameNames version old level
