-- A level whose parts are checked one by one.
use Rattle.std.specs.Prelude.{◌≡◌, ℕ, Bool, true, ◌&&◌, List, [], ◌∷◌, ◌++◌, map, reverse, Option, option_map}
use Rattle.sbe_types.specs.declared.schema.Field.{Field}
use Rattle.sbe_types.specs.declared.schema.DataField.{DataField}
use Rattle.sbe_types.specs.declared.schema.Group.{Group}
use Rattle.sbe_types.specs.declared.schema.Level.{Level, out-Level}
use Rattle.reference_graph.specs.Expansion.{Structure}
use Rattle.structure_rows.specs.declared.row.PlaceRow.{PlaceRow}
use Rattle.structure_rows.specs.Rows.{rows_of}
use Rattle.level_places.specs.Places.{HasPlaces}
use Rattle.bridge_terms.specs.Plans.{is_in}
use Rattle.bridge_plan.specs.Mappings.{Mapping, inner_of, delimiter_of}
use Rattle.bridge_plan.specs.Covers.{is_free, is_delimiter, data_tags, or_path, inner_or, fields_uncovered, data_uncovered, group_uncovered, group_tag}
use Rattle.bridge_cover.specs.declared.level.LevelMap.{LevelMap}
use Rattle.bridge_cover.specs.Tables.{AreTables}

-- a path whose names are listed from the innermost out, in the order from the outermost
abbrev pub outermost_first : Option (List (List ℕ)) → Option (List (List ℕ))
outermost_first path = option_map reverse path

-- the record is that of a structure of a mapping, and the parts of the level so far have these tags
pub record Sees (m : Mapping) (s : Structure) (before : List ℕ) (here : LevelMap) : Type 0 where
  pub tables : AreTables m here.tables.now
  pub places : HasPlaces s here.places
  pub passed : (tag : ℕ) → is_in tag here.before ≡ is_in tag before

-- ---- a group

-- the structure of the entries of a template's group; empty if its tag isn't a group's
abbrev pub entries_of : Structure → Level → Structure
entries_of s level = inner_or (inner_of (out-Level level).id s)

-- the group's tag is free, and its delimiter is a field of the template's group
abbrev pub is_group : Mapping → Structure → List ℕ → Level → Bool
is_group m s before level =
    is_free m (before ++ data_tags m.lists) (out-Level level).id && is_delimiter m (out-Level level).fields
    (delimiter_of (entries_of s level))

-- the group is one, and the rows are those of its entries
pub record IsEntered (m : Mapping) (s : Structure) (before : List ℕ) (level : Level) (rows : List PlaceRow) : Type 0 where
  pub test : is_group m s before level ≡ true
  pub own : rows ≡ rows_of (entries_of s level)

-- ---- what is left of a level

-- the first part of these groups and data that isn't covered
abbrev pub groups_left : Mapping → Structure → List ℕ → List Group → List DataField → Option (List (List ℕ))
groups_left m s before [] parts = data_uncovered m s before parts
groups_left m s before (g ∷ gs) parts = or_path (group_uncovered m s before g) (groups_left m s (group_tag g ∷ before) gs parts)

-- The parts so far are covered: the result for what is left is the result for all.
pub record Passes (m : Mapping) (s : Structure) (here : LevelMap) (left : List ℕ → Option (List (List ℕ)))
    (all : Option (List (List ℕ))) : Type 0 where
  pub earlier : List ℕ
  pub sees : Sees m s earlier here
  pub rest : left earlier ≡ all

-- the ids of fields
abbrev pub ids_of : List Field → List ℕ
ids_of fields = map (λ (f : Field). f.id) fields

-- The same for fields, whose tags precede those of the groups.
pub record PassesFields (m : Mapping) (s : Structure) (here : LevelMap) (left all : List Field) : Type 0 where
  pub earlier : List ℕ
  pub sees : Sees m s earlier here
  pub rest : fields_uncovered m s earlier left ≡ fields_uncovered m s [] all
  pub tags : (tag : ℕ) → is_in tag (ids_of left ++ earlier) ≡ is_in tag (ids_of all)
