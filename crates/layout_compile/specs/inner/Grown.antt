-- Tables as they grow: a level's row, and then those of its groups.
use Rattle.std.specs.Prelude.{◌≡◌, ℕ, suc, ◌+◌, List, [], ◌∷◌, ◌++◌, length, map, flat_map, None, ⊤}
use Rattle.std.specs.List.{AllByRecursion}
use Rattle.sbe_types.specs.declared.schema.Field.{Field}
use Rattle.sbe_types.specs.declared.schema.Level.{Level, out-Level}
use Rattle.sbe_wire.specs.Versions.{floor}
use Rattle.layout_tables.specs.declared.rows.LevelRow.{LevelRow}
use Rattle.layout_compile.specs.declared.tables.Around.{Around}
use Rattle.schema_facts.specs.InOrder.{IsKindInOrder}
use Rattle.schema_facts.specs.Levels.{Node, nodes, nodes_of}
use Rattle.schema_facts.specs.Measured.{IsMeasuredLevel}
use Rattle.layout_tables.specs.Flats.{IsFlat}
use Rattle.layout_tables.specs.Rowed.{RowIs, FieldsAre, newest_of, part_row}

-- the kinds of fields are in order
abbrev pub AreInOrder : List Field → Type 0
AreInOrder fields = AllByRecursion (λ (f : Field). IsKindInOrder f.kind) fields

-- what is required of a level before its row is made
pub record IsOrdered (node : Node) : Type 0 where
  pub measured : IsMeasuredLevel node
  pub kinds : AreInOrder (out-Level node.level).fields

-- what is required of some levels
abbrev pub AreOrdered : List Node → Type 0
AreOrdered nodes = AllByRecursion IsOrdered nodes

-- the rows are those of some levels, of which the first is number k
abbrev pub RowsAre : ℕ → List LevelRow → List Node → Type 0
RowsAre k [] [] = ⊤
RowsAre k [] (n ∷ ns) = ⊥
RowsAre k (r ∷ rs) [] = ⊥
RowsAre k (r ∷ rs) (n ∷ ns) = RowIs k r n × RowsAre (suc k) rs ns

-- the rows of these levels were added
pub record Grown (old new : List LevelRow) (ns : List Node) : Type 0 where
  pub rows : List LevelRow
  pub is : new ≡ old ++ rows
  pub are : RowsAre (length old) rows ns

-- the row is that of level n, with the number of its message and its dimension from `around`
pub record LevelIs (around : Around) (n : ℕ) (level : Level) (row : LevelRow) : Type 0 where
  pub template : row.template ≡ around.template
  pub since : row.since ≡ (out-Level level).since
  pub block : row.block ≡ (out-Level level).block_length
  pub dim : row.dim ≡ around.dim
  pub fields : FieldsAre 0 (out-Level level).fields row.fields.items
  pub newest_is : row.newest ≡ newest_of (out-Level level).fields
  pub floor_is : row.floor ≡ floor row.newest (out-Level level).fields
  pub groups : row.groups ≡ length (out-Level level).groups
  pub parts : row.parts.items ≡ map part_row (out-Level level).parts
  pub flat_is : IsFlat level row.flat
  pub end : row.end ≡ n + length (nodes around.template None level)

-- a level's row was added, and then those of its groups
pub record Pushed (around : Around) (old new : List LevelRow) (level : Level) : Type 0 where
  pub row : LevelRow
  pub this : LevelIs around (length old) level row
  pub below : Grown (old ++ row ∷ []) new (flat_map (nodes_of around.template) (out-Level level).groups)
