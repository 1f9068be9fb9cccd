-- What a view of a block shows.
use Rattle.std.specs.Prelude.{◌≡◌, ◌≤◌}
use Rattle.sbe_types.specs.declared.kind.Order.TheVariants.{Little}
use Rattle.layout_tables.specs.declared.rows.LevelRow.{LevelRow}
use Rattle.flyweight_view.specs.declared.block.BlockView.TheInside.{Inside}
use Rattle.flyweight_view.specs.declared.by_table.TableBlock.{TableBlock}
use Rattle.flyweight_view.specs.declared.plan.Span.{Span}
use Rattle.flyweight_view.specs.inner.Planned.{bytes_of, typed_at, IsPlannedBlock}
use Rattle.flyweight_view.specs.TypedBlocks.{TypedBlock}

-- what the bytes at its offset show
abbrev pub typed_of : Inside → TypedBlock
typed_of v = typed_at v.span v.plan

-- the block is there
abbrev pub IsShown : Inside → Type 0
IsShown v = IsPlannedBlock v.span v.plan

-- a block is that of a span, with the table and the fields of a row, which all exist in it, and it is little-endian
pub record IsRowBlock (s : Span) (row : LevelRow) (b : TableBlock) : Type 0 where
  pub order : s.mode.order ≡ Little
  pub newest : row.newest ≤ s.mode.version
  pub table_is : b.table.now ≡ row.flat
  pub fields_are : b.fields.now ≡ row.fields.items
  pub bytes_are : b.bytes.now ≡ bytes_of s
