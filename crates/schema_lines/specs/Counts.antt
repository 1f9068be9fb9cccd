-- How many groups and data parts a level has at all levels.
use Rattle.std.specs.Prelude.{ℕ, suc, ◌+◌, length}
use Rattle.sbe_types.specs.declared.schema.Group.{Group, Group'}
use Rattle.sbe_types.specs.declared.schema.Level.{Level, Level', Row_of-Group, end_of-Group, more_of-Group}

unfoldable mutual
  -- how many groups there are in a level, and in the entries of its groups
  pub groups_in : Level → ℕ
  groups_in (Level' name id semantic since block_length fields n groups parts) = groups_among groups

  -- The same for some groups, including themselves.
  pub groups_among : {n : _} → Row_of-Group n → ℕ
  groups_among end_of-Group = 0
  groups_among (more_of-Group group rest) = groups_with group + groups_among rest

  -- the same for one group, including itself
  pub groups_with : Group → ℕ
  groups_with (Group' dim level) = suc (groups_in level)

unfoldable mutual
  -- how many data parts there are in a level, and in the entries of its groups
  pub parts_in : Level → ℕ
  parts_in (Level' name id semantic since block_length fields n groups parts) = parts_among groups + length parts

  -- The same for some groups.
  pub parts_among : {n : _} → Row_of-Group n → ℕ
  parts_among end_of-Group = 0
  parts_among (more_of-Group group rest) = parts_with group + parts_among rest

  -- the data parts in a group's entries
  pub parts_with : Group → ℕ
  parts_with (Group' dim level) = parts_in level
