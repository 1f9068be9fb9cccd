-- The groups of a level as a list, and a group by its own level.
use Rattle.std.proofs.Common.{◌≡◌, ℕ, List, [], ◌∷◌, refl, sym, ap, ◌∙◌}
use denote.Hole.Carrier as carrier
use Rattle.sbe_types.specs.declared.schema.Level as levels
use Rattle.sbe_types.specs.declared.schema.Group as groups
use Rattle.sbe_types.specs.declared.schema.DataField.{DataField}
use Rattle.sbe_types.specs.declared.schema.Group.{Group, Group', out-Group}
use Rattle.sbe_types.specs.declared.schema.Level.{Level, Level', out-Level, Row_of-Group, end_of-Group, more_of-Group, items-the_row-Group, items_shown-the_row-Group-0}
use Rattle.reference_graph.specs.Expansion.{Structure}
use Rattle.bridge_plan.specs.Mappings.{Mapping}
use Rattle.bridge_plan.specs.Covers.{or_path, group_by, fields_uncovered, groups_uncovered, group_uncovered, group_tag, uncovered}
use Rattle.bridge_cover.specs.Parts.{entries_of, groups_left, ids_of, is_group}

groups_listed : (m : Mapping) (s : Structure) (before : List ℕ) (n : _) (row : Row_of-Group n) (parts : List DataField) →
    groups_uncovered m s before row parts ≡ groups_left m s before (items-the_row-Group n row) parts
groups_listed m s before n end_of-Group parts = refl
groups_listed m s before n (more_of-Group g rest) parts = ap (or_path (group_uncovered m s before g))
    (groups_listed m s (group_tag g ∷ before) _ rest parts)

-- the fields of a level, and then its groups and data
pub level_listed : (m : Mapping) (s : Structure) (level : Level) →
    uncovered m s level
    ≡ or_path (fields_uncovered m s [] (out-Level level).fields)
    (groups_left m s (ids_of (out-Level level).fields) (out-Level level).groups (out-Level level).parts)
unfolding levels.out-Level carrier.out
level_listed m s (Level' name id semantic since block_length fields n row parts) =
    ap (or_path (fields_uncovered m s [] fields))
    (groups_listed m s (ids_of fields) _ row parts ∙ ap (λ gs. groups_left m s (ids_of fields) gs parts)
    (sym (items_shown-the_row-Group-0 n row)))

-- the tag of a group's count
pub tag_is : (g : Group) → (out-Level (out-Group g).level).id ≡ group_tag g
unfolding groups.out-Group carrier.out
tag_is (Group' dim level) = refl

-- a group by the level of its entries
pub group_is : (m : Mapping) (s : Structure) (before : List ℕ) (g : Group) →
    group_uncovered m s before g
    ≡ group_by (is_group m s before (out-Group g).level) (out-Level (out-Group g).level).name
    (uncovered m (entries_of s (out-Group g).level) (out-Group g).level)
unfolding groups.out-Group carrier.out
group_is m s before (Group' dim level) = refl
