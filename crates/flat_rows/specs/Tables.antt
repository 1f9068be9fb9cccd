-- What a table of rows stands for. Own profile.
use Rattle.std.specs.Prelude.{◌≡◌, ◌≤◌, ℕ, ◌+◌, ◌++◌, List, map}
use Rattle.std.specs.List.{AllByRecursion}
use Rattle.sbe_types.specs.Places.{width}
use Rattle.schema_facts.specs.InOrder.{IsKindInOrder}
use Rattle.flat_rows.specs.declared.rows.FlatRow.{FlatRow}
use Rattle.flat_rows.specs.declared.rows.FlatRows.{FlatRows}
use Rattle.flat_rows.specs.Bytes.{AreValidBytes}
use Rattle.flat_rows.specs.Scalars.{Scalar, scalar_at}
use Rattle.flat_rows.specs.Quick.{IsQuick}

-- the value of a row
abbrev pub scalar_of : FlatRow → Scalar
scalar_of row = scalar_at row.kind row.place

-- the values of a table
abbrev pub stands_for : FlatRows → List Scalar
stands_for table = map scalar_of table.rows.items

-- a row agrees with its kind, which is in order
pub record IsRow (row : FlatRow) : Type 0 where
  pub order : IsKindInOrder row.kind
  pub end : row.end ≡ row.place + width row.kind
  pub quick : IsQuick row.quick row.kind
  pub bytes : AreValidBytes row.valid.items row.kind

-- each row of the table agrees with its kind
abbrev pub IsTable : FlatRows → Type 0
IsTable table = AllByRecursion IsRow table.rows.items

-- the bytes of each value are within a block of n bytes
abbrev pub RowsFit : ℕ → List FlatRow → Type 0
RowsFit n rows = AllByRecursion (λ (row : FlatRow). row.end ≤ n) rows

-- a table grew by these values
pub record Grows (old new : FlatRows) (scalars : List Scalar) : Type 0 where
  pub table : IsTable old → IsTable new
  pub grown : stands_for new ≡ stands_for old ++ scalars
