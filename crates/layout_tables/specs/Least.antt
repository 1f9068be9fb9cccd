-- The least number of bytes of an entry, by the rows.
use Rattle.std.specs.Prelude.{ℕ, ◌+◌, if◌then◌else◌, Option, Some, None, List, [], ◌∷◌}
use Rattle.sbe_types.specs.Numbers.{prim_width}
use Rattle.sbe_wire.specs.Versions.{is_alive}
use Rattle.layout_tables.specs.declared.rows.DimRow.{DimRow}
use Rattle.layout_tables.specs.declared.rows.LevelRow.{LevelRow}
use Rattle.layout_tables.specs.declared.rows.PartRow.{PartRow}

-- how many bytes a dimension has
abbrev pub dim_width : Option DimRow → ℕ
dim_width None = 0
dim_width (Some dim) = dim.width

-- the bytes that a group takes at least: its dimension, if it is alive
abbrev pub row_least : ℕ → LevelRow → ℕ
row_least version row = if is_alive version row.since then dim_width row.dim else 0

-- the bytes that a data part takes at least: its length number, if it is alive
abbrev pub part_row_least : ℕ → PartRow → ℕ
part_row_least version part = if is_alive version part.since then prim_width part.length.prim else 0

-- the same for some data parts
abbrev pub part_rows_least : ℕ → List PartRow → ℕ
part_rows_least version [] = 0
part_rows_least version (part ∷ parts) = part_row_least version part + part_rows_least version parts
