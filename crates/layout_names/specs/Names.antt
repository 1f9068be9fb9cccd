-- The messages of a schema, and the parts of a level, by their names.
use Rattle.std.specs.Prelude.{ℕ, Option, List, map}
use Rattle.sbe_types.specs.declared.schema.DataField.{DataField}
use Rattle.sbe_types.specs.declared.schema.Field.{Field}
use Rattle.sbe_types.specs.declared.schema.Group.{Group, out-Group}
use Rattle.sbe_types.specs.declared.schema.Level.{Level, out-Level}
use Rattle.sbe_types.specs.declared.schema.WireSchema.{WireSchema}
use Rattle.id_tables.specs.Places.{name_place}
use Rattle.schema_facts.specs.Levels.{fields_at, groups_at, parts_at}

-- the names of levels
abbrev pub level_names : List Level → List (List ℕ)
level_names levels = map (λ l. (out-Level l).name) levels

-- the names of fields
abbrev pub field_names : List Field → List (List ℕ)
field_names fields = map (λ f. f.name) fields

-- the names of groups, which are those of their entries' levels
abbrev pub group_names : List Group → List (List ℕ)
group_names groups = map (λ g. (out-Level (out-Group g).level).name) groups

-- the names of data parts
abbrev pub data_names : List DataField → List (List ℕ)
data_names parts = map (λ d. d.name) parts

-- the number of the first message of a name
abbrev pub template_named : List ℕ → WireSchema → Option ℕ
template_named name schema = name_place name (level_names schema.messages)

-- the number of level n's first field of a name
abbrev pub field_named : List ℕ → WireSchema → ℕ → Option ℕ
field_named name schema n = name_place name (field_names (fields_at schema n))

-- the number of level n's first group of a name
abbrev pub group_named : List ℕ → WireSchema → ℕ → Option ℕ
group_named name schema n = name_place name (group_names (groups_at schema n))

-- the number of level n's first data part of a name
abbrev pub data_named : List ℕ → WireSchema → ℕ → Option ℕ
data_named name schema n = name_place name (data_names (parts_at schema n))
