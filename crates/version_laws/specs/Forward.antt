-- Which added group or data an older decoder can't skip. `version` is old's, the levels are new's.
use Rattle.std.specs.Prelude.{ℕ, Bool, false, not, ◌||◌, if◌then◌else◌, Option, Some, None, List, [], ◌∷◌}
use Rattle.sbe_types.specs.declared.schema.DataField.{DataField}
use Rattle.sbe_types.specs.declared.schema.Group.{Group, Group'}
use Rattle.sbe_types.specs.declared.schema.Level.{Level, Level', out-Level, Row_of-Group, end_of-Group, more_of-Group}
use Rattle.sbe_types.specs.declared.schema.WireSchema.{WireSchema}
use Rattle.sbe_wire.specs.Faults.{message_named}
use Rattle.version_laws.specs.Differ.{is_old, group_since, group_name}

-- the names from a message down to a part
abbrev pub NamePath : Type 0
NamePath = List (List ℕ)

-- the first of two paths
abbrev pub or_later : Option NamePath → Option NamePath → Option NamePath
or_later None more = more
or_later (Some path) more = Some path

-- a path inside a part with this name
abbrev pub below : List ℕ → Option NamePath → Option NamePath
below name None = None
below name (Some path) = Some (name ∷ path)

-- ---- entries: each added group or data counts

-- the first data part of an entry that old lacks
abbrev pub added_part : ℕ → List DataField → Option NamePath
added_part version [] = None
added_part version (p ∷ ps) = if is_old version p.since then added_part version ps else Some (p.name ∷ [])

unfoldable mutual
  -- the first group or data of an entry that old lacks, at any depth
  pub added_in : ℕ → Level → Option NamePath
  added_in version (Level' _ _ _ _ _ _ _ groups parts) = or_later (added_group version groups) (added_part version parts)

  -- the same among groups: one that old lacks, or one inside a group that old has
  pub added_group : ℕ → {n : _} → Row_of-Group n → Option NamePath
  added_group version end_of-Group = None
  added_group version (more_of-Group g gs) =
      if is_old version (group_since g)
      then or_later (below (group_name g) (added_below version g)) (added_group version gs)
      else Some (group_name g ∷ [])

  -- the same inside a group that old has
  pub added_below : ℕ → Group → Option NamePath
  added_below version (Group' dim level) = added_in version level

-- ---- the root: an added group or data counts if one that old has follows it

-- one of these data parts is one that old has
abbrev pub has_old_part : ℕ → List DataField → Bool
has_old_part version [] = false
has_old_part version (p ∷ ps) = is_old version p.since || has_old_part version ps

-- one of these groups is one that old has
abbrev pub has_old_group : ℕ → {n : _} → Row_of-Group n → Bool
has_old_group version end_of-Group = false
has_old_group version (more_of-Group g gs) = is_old version (group_since g) || has_old_group version gs

-- the first data part that old lacks and that is followed by one that it has
abbrev pub early_part : ℕ → List DataField → Option NamePath
early_part version [] = None
early_part version (p ∷ ps) = if is_old version p.since || not (has_old_part version ps) then early_part version ps else Some (p.name ∷ [])

-- the first group, or data after the groups, that old lacks and that is followed by a part that it has; or the first
-- addition inside a group that old has
abbrev pub early_group : ℕ → List DataField → {n : _} → Row_of-Group n → Option NamePath
early_group version parts end_of-Group = early_part version parts
early_group version parts (more_of-Group g gs) =
    if is_old version (group_since g)
    then or_later (below (group_name g) (added_below version g)) (early_group version parts gs)
    else (if has_old_group version gs || has_old_part version parts then Some (group_name g ∷ []) else early_group version parts gs)

-- the same for a message's root
unfoldable pub added_at_root : ℕ → Level → Option NamePath
added_at_root version (Level' _ _ _ _ _ _ _ groups parts) = early_group version parts groups

-- the same for a message of new that old has, with its name in front
abbrev pub added_of : ℕ → Level → Option (ℕ × Level) → Option NamePath
added_of version new None = None
added_of version new (Some old) = below (out-Level new).name (added_at_root version new)

-- the first one, in the order of new's messages
abbrev pub added_among : ℕ → List Level → List Level → Option NamePath
added_among version old [] = None
added_among version old (new ∷ news) = or_later (added_of version new (message_named 0 (out-Level new).id old)) (added_among version old news)

-- the first added group or data for which the answer isn't TwoWay
abbrev pub first_added : WireSchema → WireSchema → Option NamePath
first_added old new = added_among old.version old.messages new.messages
