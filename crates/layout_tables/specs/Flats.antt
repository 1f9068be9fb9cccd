-- The table of the values of a level's block.
use Rattle.std.specs.Prelude.{◌≡◌}
use Rattle.sbe_types.specs.declared.schema.Level.{Level, out-Level}
use Rattle.flat_rows.specs.declared.rows.FlatRows.{FlatRows}
use Rattle.flat_rows.specs.Scalars.{scalars_of}
use Rattle.flat_rows.specs.Tables.{stands_for, IsTable}

-- the table represents the values of a level's block, in wire order
pub record IsFlat (level : Level) (table : FlatRows) : Type 0 where
  pub table_is : IsTable table
  pub stands : stands_for table ≡ scalars_of (out-Level level).fields
