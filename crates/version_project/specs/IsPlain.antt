-- The test of plain entries and roots.
use Rattle.std.specs.Prelude.{ℕ, Bool, true, not, ◌&&◌, ◌||◌, if◌then◌else◌, List, [], ◌∷◌}
use Rattle.std.specs.List.{list_all, list_any}
use Rattle.sbe_types.specs.declared.schema.DataField.{DataField}
use Rattle.sbe_types.specs.declared.schema.Group.{Group, Group'}
use Rattle.sbe_types.specs.declared.schema.Level.{Level, Level', out-Level, Row_of-Group, end_of-Group, more_of-Group}
use Rattle.sbe_types.specs.declared.message.DataVal.{DataVal}
use Rattle.sbe_types.specs.declared.message.Block.{Block, out-Block}
use Rattle.sbe_types.specs.declared.message.GroupVal.{GroupVal, items-the_row-Block}
use Rattle.sbe_types.specs.declared.message.GroupVal.TheVariants as groupval
use Rattle.version_laws.specs.Differ.{is_old, group_since}
use Rattle.version_laws.specs.Projected.{old_part}
use Rattle.version_laws.specs.Plain.{is_absent_part, is_absent_group}

-- the test holds of each pair
abbrev pub all_pairs : {X Y : Type 0} → (X → Y → Bool) → List X → List Y → Bool
all_pairs test [] ys = true
all_pairs test (x ∷ xs) [] = true
all_pairs test (x ∷ xs) (y ∷ ys) = test x y && all_pairs test xs ys

-- the data part is absent, or old has it
abbrev pub part_is_plain : ℕ → DataField → DataVal → Bool
part_is_plain version p v = is_old version p.since || is_absent_part v

-- the test holds of each entry of a group
abbrev pub entries_pass : (Block → Bool) → GroupVal → Bool
entries_pass test groupval.Absent = true
entries_pass test (groupval.Entries' n row) = list_all test (items-the_row-Block _ row)

unfoldable mutual
  -- no group or data that old lacks is in the entry
  pub entry_is_plain : ℕ → Level → Block → Bool
  entry_is_plain version (Level' _ _ _ _ _ _ _ groups parts) block =
      groups_are_plain version groups (out-Block block).groups && all_pairs (part_is_plain version) parts (out-Block block).parts

  -- the same for groups
  pub groups_are_plain : ℕ → {n : _} → Row_of-Group n → List GroupVal → Bool
  groups_are_plain version end_of-Group vs = true
  groups_are_plain version (more_of-Group g gs) [] = true
  groups_are_plain version (more_of-Group g gs) (v ∷ vs) = group_is_plain version g v && groups_are_plain version gs vs

  -- the same for a group
  pub group_is_plain : ℕ → Group → GroupVal → Bool
  group_is_plain version (Group' dim level) v =
      if is_old version (out-Level level).since then entries_pass (λ entry. entry_is_plain version level entry) v else is_absent_group v

-- ---- the root: an addition that is there isn't followed by a part that old has

-- old has the group
abbrev pub old_group : ℕ → Group → Bool
old_group version g = is_old version (group_since g)

-- a data part that old lacks, and that is there, is followed by none that old has
abbrev pub root_parts_pass : ℕ → List DataField → List DataVal → Bool
root_parts_pass version [] vs = true
root_parts_pass version (p ∷ ps) [] = true
root_parts_pass version (p ∷ ps) (v ∷ vs) =
    if part_is_plain version p v then root_parts_pass version ps vs else not (list_any (old_part version) (p ∷ ps))

-- the same for groups and the data after them
abbrev pub root_groups_pass : ℕ → List DataField → List DataVal → List Group → List GroupVal → Bool
root_groups_pass version parts ds [] vs = root_parts_pass version parts ds
root_groups_pass version parts ds (g ∷ gs) [] = true
root_groups_pass version parts ds (g ∷ gs) (v ∷ vs) =
    if group_is_plain version g v
    then root_groups_pass version parts ds gs vs
    else not (list_any (old_group version) (g ∷ gs)) && not (list_any (old_part version) parts)

-- a message's root misleads no older decoder
abbrev pub root_is_plain : ℕ → Level → Block → Bool
root_is_plain version level block =
    root_groups_pass version (out-Level level).parts (out-Block block).parts (out-Level level).groups (out-Block block).groups
