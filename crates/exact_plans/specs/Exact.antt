-- Levels whose fields have kinds with values in one form, at each depth. Own profile.
use Rattle.std.specs.Prelude.{Bool, true, ◌&&◌}
use Rattle.std.specs.List.{list_all}
use Rattle.sbe_types.specs.declared.schema.Field.{Field}
use Rattle.sbe_types.specs.declared.schema.Group.{Group, Group'}
use Rattle.sbe_types.specs.declared.schema.Level.{Level, Level', Row_of-Group, end_of-Group, more_of-Group}
use Rattle.back_texts.specs.Forms.{has_one_form}

-- the kind of the field has values in one form
abbrev pub is_of_one_form : Field → Bool
is_of_one_form f = has_one_form f.kind

unfoldable mutual
  -- the fields of the level are of one form, and so are those of the entries of its groups
  pub is_exact : Level → Bool
  is_exact (Level' name id semantic since block_length fields n groups parts) = list_all is_of_one_form fields && are_exact groups

  -- the same for some groups
  pub are_exact : {n : _} → Row_of-Group n → Bool
  are_exact end_of-Group = true
  are_exact (more_of-Group group rest) = is_exact_group group && are_exact rest

  -- the same for the entries of one group
  pub is_exact_group : Group → Bool
  is_exact_group (Group' dim level) = is_exact level
