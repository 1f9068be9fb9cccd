-- Blocks of a level: where they are, and what they show by the table of the level's fields.
use Rattle.std.specs.Prelude.{◌≡◌, ◌≤◌, ℕ, ◌+◌, List, length, take, drop}
use Rattle.sbe_types.specs.declared.limits.TheConstants.{PART_LIMIT}
use Rattle.sbe_types.specs.declared.schema.Level.{Level, out-Level}
use Rattle.sbe_wire.specs.Placed.{ArePlaced}
use Rattle.sbe_wire.specs.Versions.{floor}
use Rattle.sbe_wire.specs.declared.mode.Mode.{Mode}
use Rattle.flat_rows.specs.BlockChecks.{ScalarsShow}
use Rattle.flat_rows.specs.Tables.{stands_for}
use Rattle.layout_tables.specs.declared.rows.LevelRow.{LevelRow}
use Rattle.layout_tables.specs.Flats.{IsFlat}
use Rattle.layout_tables.specs.Rowed.{FieldsAre, newest_of}
use Rattle.body_walk.specs.inner.Fields.{AreFieldRows}

-- the block is the k bytes from an offset of the body on, which are within it
pub record IsBlockAt (body : List ℕ) (at k : ℕ) (block : List ℕ) : Type 0 where
  pub room : at + k ≤ length body
  pub bytes_are : block ≡ take k (drop at body)
  pub long : length block ≡ k

-- the row is that of a level, whose fields are within a block of n bytes at a version
pub record IsBlockRow (version n : ℕ) (level : Level) (row : LevelRow) : Type 0 where
  pub rows : AreFieldRows version n (out-Level level).fields row.fields.items
  pub few : length (out-Level level).fields ≤ PART_LIMIT
  pub placed : ArePlaced 0 (out-Level level).fields
  pub reaches : floor version (out-Level level).fields ≤ n
  pub are : FieldsAre 0 (out-Level level).fields row.fields.items
  pub newest_is : row.newest ≡ newest_of (out-Level level).fields
  pub flat_is : IsFlat level row.flat

-- all fields of a row exist at a version, and a block shows each value of its table
pub record ShowsEach (mode : Mode) (row : LevelRow) (block : List ℕ) : Type 0 where
  pub newest : row.newest ≤ mode.version
  pub shows : ScalarsShow mode.order mode.known (stands_for row.flat) block
