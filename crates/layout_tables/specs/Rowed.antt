-- What the rows of a layout state of the schema's levels, fields and numbers.
use Rattle.std.specs.Prelude.{◌≡◌, ℕ, suc, ◌+◌, max, true, not, ◌&&◌, if◌then◌else◌, Option, Some, None, List, [], ◌∷◌, length, map, slice_get, ⊤, codes}
use Rattle.sbe_types.specs.declared.kind.Member.{Member}
use Rattle.sbe_types.specs.declared.kind.Primitive.TheVariants.{U16}
use Rattle.sbe_types.specs.declared.schema.Field.{Field}
use Rattle.sbe_types.specs.declared.schema.DataField.{DataField}
use Rattle.sbe_types.specs.declared.schema.Level.{Level, out-Level}
use Rattle.sbe_types.specs.declared.schema.WireSchema.{WireSchema}
use Rattle.sbe_types.specs.Places.{is_const, begin_of, end_past, members_end}
use Rattle.sbe_wire.specs.Named.{Spot, spot_named}
use Rattle.sbe_wire.specs.Versions.{floor, is_alive}
use Rattle.layout_tables.specs.declared.rows.SpotRow.{SpotRow}
use Rattle.layout_tables.specs.declared.rows.DimRow.{DimRow}
use Rattle.layout_tables.specs.declared.rows.HeaderRow.{HeaderRow}
use Rattle.layout_tables.specs.declared.rows.FieldRow.{FieldRow}
use Rattle.layout_tables.specs.declared.rows.PartRow.{PartRow}
use Rattle.layout_tables.specs.declared.rows.LevelRow.{LevelRow}
use Rattle.schema_facts.specs.Levels.{Node, all_nodes, nodes}
use Rattle.layout_tables.specs.Flats.{IsFlat}
use Rattle.schema_facts.specs.Measured.{IsCounter}

-- the spot that a row gives
abbrev pub as_spot : SpotRow → Spot
as_spot row = record { place = row.place; leaf = row.leaf }

-- the row gives the number with this name, which is within the members' bytes
pub record SpotIs (members : List Member) (name : List ℕ) (row : SpotRow) : Type 0 where
  pub named : spot_named 0 name members ≡ Some (as_spot row)
  pub counts : IsCounter (members_end 0 members) (as_spot row)

-- the row is that of a dimension
pub record DimIs (row : DimRow) (dim : List Member) : Type 0 where
  pub width : row.width ≡ members_end 0 dim
  pub block : SpotIs dim (codes "blockLength") row.block
  pub count : SpotIs dim (codes "numInGroup") row.count

-- the number is at this offset, and has two bytes
pub record IsTwoBytes (place : ℕ) (row : SpotRow) : Type 0 where
  pub place_is : row.place ≡ place
  pub prim_is : row.leaf.prim ≡ U16

-- the four numbers of a header have two bytes each, one after another
pub record IsUsual (row : HeaderRow) : Type 0 where
  pub block : IsTwoBytes 0 row.block
  pub template : IsTwoBytes 2 row.template
  pub schema : IsTwoBytes 4 row.schema
  pub version : IsTwoBytes 6 row.version

-- the row is that of a header
pub record HeaderIs (row : HeaderRow) (members : List Member) : Type 0 where
  pub width : row.width ≡ members_end 0 members
  pub block : SpotIs members (codes "blockLength") row.block
  pub template : SpotIs members (codes "templateId") row.template
  pub schema : SpotIs members (codes "schemaId") row.schema
  pub version : SpotIs members (codes "version") row.version
  pub usual : row.is_usual ≡ true → IsUsual row

-- a group has the row of its dimension, and a root has none
abbrev pub DimOf : Option DimRow → Option (List Member) → Type 0
DimOf None None = ⊤
DimOf None (Some dim) = ⊥
DimOf (Some row) None = ⊥
DimOf (Some row) (Some dim) = DimIs row dim

-- the row is that of a field after fields that end at e
pub record FieldIs (e : ℕ) (f : Field) (r : FieldRow) : Type 0 where
  pub since : r.since ≡ f.since
  pub constant : r.is_constant ≡ is_const f.kind
  pub place : r.place ≡ begin_of e f.offset
  pub end : r.end ≡ end_past e f.offset f.kind

-- the rows are those of fields after fields that end at e
abbrev pub FieldsAre : ℕ → List Field → List FieldRow → Type 0
FieldsAre e [] [] = ⊤
FieldsAre e [] (r ∷ rs) = ⊥
FieldsAre e (f ∷ fs) [] = ⊥
FieldsAre e (f ∷ fs) (r ∷ rs) = FieldIs e f r × FieldsAre (end_past e f.offset f.kind) fs rs

-- the floor by the rows, where the block already has to reach `reached`
abbrev pub rows_floor : ℕ → ℕ → List FieldRow → ℕ
rows_floor version reached [] = reached
rows_floor version reached (r ∷ rs) = rows_floor version (if is_alive version r.since && not r.is_constant then r.end else reached) rs

-- the row of a data part
abbrev pub part_row : DataField → PartRow
part_row part = record { since = part.since; length = part.length }

-- the largest since of fields, or n if it is larger
abbrev pub newest_from : ℕ → List Field → ℕ
newest_from n [] = n
newest_from n (f ∷ fs) = newest_from (max n f.since) fs

-- the first version at which all fields are alive
abbrev pub newest_of : List Field → ℕ
newest_of fields = newest_from 0 fields

-- the row is that of level n; the stored floor is that of all its fields
pub record RowIs (n : ℕ) (row : LevelRow) (node : Node) : Type 0 where
  pub template : row.template ≡ node.template
  pub since : row.since ≡ (out-Level node.level).since
  pub block : row.block ≡ (out-Level node.level).block_length
  pub dim : DimOf row.dim node.dim
  pub fields : FieldsAre 0 (out-Level node.level).fields row.fields.items
  pub newest_is : row.newest ≡ newest_of (out-Level node.level).fields
  pub floor_is : row.floor ≡ floor row.newest (out-Level node.level).fields
  pub groups : row.groups ≡ length (out-Level node.level).groups
  pub parts : row.parts.items ≡ map part_row (out-Level node.level).parts
  pub flat_is : IsFlat node.level row.flat
  pub end : row.end ≡ n + length (nodes node.template node.dim node.level)

-- the rows are those of all levels
pub record AreRows (schema : WireSchema) (levels : List LevelRow) : Type 0 where
  pub as_many : length levels ≡ length (all_nodes schema)
  pub rows : (n : ℕ) (row : LevelRow) (node : Node) → slice_get levels n ≡ Some row → slice_get (all_nodes schema) n ≡ Some node → RowIs n row node

-- the row is that of level n of the schema
abbrev pub RowFor : WireSchema → ℕ → LevelRow → Type 0
RowFor schema n row = (node : Node) × (slice_get (all_nodes schema) n ≡ Some node) × RowIs n row node

-- the numbers of the roots of messages, of which the first is number t and its root is level k
abbrev pub roots_from : ℕ → ℕ → List Level → List ℕ
roots_from k t [] = []
roots_from k t (level ∷ levels) = k ∷ roots_from (k + length (nodes t None level)) (suc t) levels
