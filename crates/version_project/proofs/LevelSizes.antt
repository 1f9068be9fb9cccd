-- Sizes of levels, by which the comparison of levels ends.
use Rattle.std.proofs.Common.{◌≡◌, ◌≤◌, ◌+◌, ℕ, zero, suc, List, [], ◌∷◌, Some, refl, sym, ap, ◌∙◌, arith}
use Rattle.std.specs.Prelude.{slice_get}
use denote.Hole.Carrier as carrier
use Rattle.sbe_types.specs.declared.schema.Level as levels
use Rattle.sbe_types.specs.declared.schema.Group as groups_of
use Rattle.sbe_types.specs.declared.schema.Group.{Group, Group', out-Group}
use Rattle.sbe_types.specs.declared.schema.Level.{Level, Level', out-Level, Row_of-Group, end_of-Group, more_of-Group, items-the_row-Group, items_shown-the_row-Group-0}
use Rattle.version_project.proofs.Items.{some_is}

mutual
  -- the groups in a level, those inside one another too
  pub level_size : Level → ℕ
  level_size (Level' _ _ _ _ _ _ _ groups _) = suc (suc (row_size groups))

  pub row_size : {n : _} → Row_of-Group n → ℕ
  row_size end_of-Group = 0
  row_size (more_of-Group g gs) = group_size g + row_size gs

  pub group_size : Group → ℕ
  group_size (Group' dim level) = suc (level_size level)

pub groups_size : List Group → ℕ
groups_size [] = 0
groups_size (g ∷ gs) = group_size g + groups_size gs

rows_size : {n : _} (gs : Row_of-Group n) → row_size gs ≡ groups_size (items-the_row-Group _ gs)
unfolding row_size groups_size
rows_size end_of-Group = refl
rows_size (more_of-Group g gs) = ap (λ n. group_size g + n) (rows_size gs)

pub size_of_level : (level : Level) → level_size level ≡ suc (suc (groups_size (out-Level level).groups))
unfolding level_size levels.out-Level carrier.out
size_of_level (Level' name id semantic since block_length fs n gs ps) = ap (λ n. suc (suc n)) (rows_size gs ∙ ap groups_size (sym (items_shown-the_row-Group-0 n gs)))

pub size_of_group : (g : Group) → group_size g ≡ suc (level_size (out-Group g).level)
unfolding group_size groups_of.out-Group carrier.out
size_of_group (Group' dim level) = refl

pub size_of_one : (gs : List Group) (i : ℕ) (g : Group) → slice_get gs i ≡ Some g → group_size g ≤ groups_size gs
unfolding groups_size
size_of_one [] i g at = cc
size_of_one (x ∷ gs) zero g at =
    let here : group_size x ≡ group_size g = ap group_size (some_is at) in
    omega (arith, here)
size_of_one (x ∷ gs) (suc i) g at = let rest = size_of_one gs i g at in omega (arith, rest)
