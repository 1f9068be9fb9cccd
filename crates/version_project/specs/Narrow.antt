-- Levels whose fields end within the largest offset.
use Rattle.std.specs.Prelude.{⊤}
use Rattle.sbe_types.specs.declared.schema.Group.{Group, Group'}
use Rattle.sbe_types.specs.declared.schema.Level.{Level, Level', Row_of-Group, end_of-Group, more_of-Group}
use Rattle.schema_facts.specs.Measured.{AreNarrowFields}

unfoldable mutual
  -- the fields of a level, and of the levels of its groups, end within the largest offset
  pub IsNarrowLevel : Level → Type 0
  IsNarrowLevel (Level' _ _ _ _ _ fields _ groups _) = AreNarrowFields 0 fields × AreNarrowGroups groups

  -- the same for some groups
  pub AreNarrowGroups : {n : _} → Row_of-Group n → Type 0
  AreNarrowGroups end_of-Group = ⊤
  AreNarrowGroups (more_of-Group g gs) = IsNarrowGroup g × AreNarrowGroups gs

  -- the same for one group
  pub IsNarrowGroup : Group → Type 0
  IsNarrowGroup (Group' dim level) = IsNarrowLevel level
