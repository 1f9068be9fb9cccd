-- Blocks of a level by the table of the level's fields.
use Rattle.std.specs.Prelude.{◌≡◌, ◌≤◌, ◌-◌, ℕ, Bool, false, List, ◌∷◌, length, take, drop, slice_get, Some}
use Rattle.sbe_types.specs.declared.kind.Order.TheVariants.{Little}
use Rattle.sbe_types.specs.declared.message.Block.{out-Block}
use Rattle.sbe_types.specs.declared.message.Value.{Value}
use Rattle.sbe_types.specs.declared.schema.Field.{Field}
use Rattle.sbe_types.specs.Shows.{Shows}
use Rattle.sbe_wire.specs.Lays.{FieldsLay}
use Rattle.sbe_wire.specs.Placed.{ArePlaced}
use Rattle.schema_facts.specs.InOrder.{IsKindInOrder}
use Rattle.flat_rows.specs.BlockChecks.{AllAlive}
use Rattle.flat_rows.specs.Scalars.{scalars_of}
use Rattle.flat_rows.specs.Tables.{stands_for, IsTable, RowsFit}
use Rattle.layout_tables.specs.declared.rows.FieldRow.{FieldRow}
use Rattle.flyweight_view.specs.declared.by_table.TableBlock.{TableBlock}
use Rattle.flyweight_view.specs.TypedBlocks.{TypedBlock}

-- the bytes show the value of field i in little-endian order
pub record ShowsField (s : TypedBlock) (i : ℕ) (bytes : List ℕ) : Type 0 where
  pub field : Field
  pub there : slice_get s.fields i ≡ Some field
  pub order : IsKindInOrder field.kind
  pub value : Value
  pub given : slice_get (out-Block s.block).fields i ≡ Some value
  pub known : Bool
  pub shown : Shows Little known field.kind value bytes

-- the bytes of a row within a block
abbrev pub bytes_in_row : FieldRow → List ℕ → List ℕ
bytes_in_row r block = take (r.end - r.place) (drop r.place block)

-- the bytes of a row are within a block
pub record IsWithin (r : FieldRow) (block : List ℕ) : Type 0 where
  pub ordered : r.place ≤ r.end
  pub near : r.end ≤ length block

-- the bytes of each row that isn't that of a constant are within the block
abbrev pub AreWithin : TableBlock → Type 0
AreWithin b = (i : ℕ) (r : FieldRow) → slice_get b.fields.now i ≡ Some r → r.is_constant ≡ false → IsWithin r b.bytes.now

-- the bytes of the row of field i are within a block, and show its value
pub record IsFieldAt (s : TypedBlock) (i : ℕ) (r : FieldRow) (block : List ℕ) : Type 0 where
  pub within : IsWithin r block
  pub shows : ShowsField s i (bytes_in_row r block)

-- A block with the table of its values and the rows of its fields, in little-endian order. It may be of any version
-- that has all fields.
pub record IsTableBlock (b : TableBlock) (s : TypedBlock) : Type 0 where
  pub table_is : IsTable b.table.now
  pub stands : stands_for b.table.now ≡ scalars_of s.fields
  pub fits : RowsFit (length b.bytes.now) b.table.now.rows.items
  pub placed : ArePlaced 0 s.fields
  pub version : ℕ
  pub known : Bool
  pub alive : AllAlive version s.fields
  pub lay : FieldsLay (record { order = Little; known = known; version = version }) 0 s.fields (out-Block s.block).fields b.bytes.now
  pub fields_at : (i : ℕ) (r : FieldRow) → slice_get b.fields.now i ≡ Some r → r.is_constant ≡ false → IsFieldAt s i r b.bytes.now

-- the first of some entries is taken: the block is its own, and it has neither groups nor data
pub record TakesTable (b : TableBlock) (before after : List TypedBlock) : Type 0 where
  pub entry : TypedBlock
  pub table : IsTableBlock b entry
  pub groups : length entry.groups ≡ 0
  pub parts : length entry.parts ≡ 0
  pub first : before ≡ entry ∷ after
