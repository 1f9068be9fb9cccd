-- The mapping that tables are of.
use Rattle.std.specs.Prelude.{◌≡◌}
use Rattle.bridge_plan.specs.Mappings.{Mapping}
use Rattle.bridge_mapping.specs.Tables.{HaveSameTags}
use Rattle.bridge_cover.specs.declared.tables.Tables.{Tables}

-- the tables are those of the mapping
pub record AreTables (m : Mapping) (tables : Tables) : Type 0 where
  pub tags : HaveSameTags tables.tags m.lists
  pub datatypes : tables.datatypes ≡ m.datatypes
