-- What a dimension that begins at an offset of some bytes gives. From SBE 1.0, Repeating group encoding.
use Rattle.std.specs.Prelude.{ℕ, ◌+◌, ◌-◌, nat_le, if◌then◌else◌, Result, Ok, Err, List, length, take, drop, codes}
use Rattle.sbe_types.specs.declared.kind.Order.{Order}
use Rattle.sbe_types.specs.declared.kind.Member.{Member}
use Rattle.sbe_types.specs.Places.{members_end}
use Rattle.sbe_wire.specs.Named.{number_named, is_admitted}
use Rattle.schema_facts.specs.Measured.{IsCounter}
use Rattle.layout_tables.specs.declared.rows.DimRow.{DimRow}
use Rattle.layout_tables.specs.Rowed.{as_spot}
use Rattle.group_codec.specs.declared.dim.Dim.{Dim}
use Rattle.group_codec.specs.declared.dim.DimErr.{DimErr}
use Rattle.group_codec.specs.declared.dim.DimErr.TheVariants.{Truncated, Count}

-- the block length and the count of a dimension's bytes, if the count is admitted, and the offset after them
abbrev pub counted : Order → List Member → List ℕ → ℕ → Result Dim DimErr
counted order dim head after =
    let count = number_named order dim (codes "numInGroup") head in
    if is_admitted dim (codes "numInGroup") count
    then Ok (record { block = number_named order dim (codes "blockLength") head; count = count; after = after })
    else Err (Count count)

-- the dimension that begins at an offset of some bytes, or why there is none
abbrev pub dim_read : Order → List Member → List ℕ → ℕ → Result Dim DimErr
dim_read order dim bytes at =
    let wide = members_end 0 dim in
    if nat_le wide (length bytes - at) then counted order dim (take wide (drop at bytes)) (at + wide) else Err Truncated

-- the numbers of a dimension's row are within its bytes
pub record IsDimRow (row : DimRow) : Type 0 where
  pub block : IsCounter row.width (as_spot row.block)
  pub count : IsCounter row.width (as_spot row.count)
