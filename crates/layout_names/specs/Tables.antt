-- The tables of names are those of a schema.
use Rattle.std.specs.Prelude.{◌≡◌, List, map}
use Rattle.sbe_types.specs.declared.schema.Level.{Level, out-Level}
use Rattle.sbe_types.specs.declared.schema.WireSchema.{WireSchema}
use Rattle.schema_facts.specs.Levels.{Node, all_nodes}
use Rattle.layout_names.specs.declared.tables.LayoutNames.{LayoutNames}
use Rattle.layout_names.specs.declared.tables.LevelNames.{LevelNames}
use Rattle.layout_names.specs.Names.{level_names, field_names, group_names, data_names}

-- the names of a level's fields, groups and data
abbrev pub part_names : Level → LevelNames
part_names level =
    record {
      fields = field_names (out-Level level).fields;
      groups = group_names (out-Level level).groups;
      parts = data_names (out-Level level).parts;
    }

-- the names of the parts of levels
abbrev pub parts_names : List Node → List LevelNames
parts_names nodes = map (λ (node : Node). part_names node.level) nodes

-- the names of a schema's messages, and of the parts of each level
pub record AreNames (schema : WireSchema) (names : LayoutNames) : Type 0 where
  pub templates_are : names.templates ≡ level_names schema.messages
  pub levels_are : names.levels.items ≡ parts_names (all_nodes schema)
