-- The tables of a pair of schemas.
use Rattle.std.specs.Prelude.{◌≡◌}
use Rattle.std.specs.List.{All}
use Rattle.sbe_types.specs.declared.schema.WireSchema.{WireSchema}
use Rattle.version_copies.specs.Copies.{IsTwin}
use Rattle.regrade_command.specs.declared.pair.PairTables.{PairTables}

-- the tables are those of the two schemas
pub record ArePaired (from to : WireSchema) (tables : PairTables) : Type 0 where
  pub read : tables.read ≡ from
  pub written : tables.written ≡ to
  pub twins : All (IsTwin tables.read tables.written) tables.twins
