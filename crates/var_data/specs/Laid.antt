-- Data that are put, and where they end. From SBE 1.0, Variable-length data.
use Rattle.std.specs.Prelude.{ℕ, ◌+◌, ◌-◌, nat_le, if◌then◌else◌, Option, Some, Result, Ok, Err, List, length, pos}
use Rattle.sbe_types.specs.declared.kind.Order.{Order}
use Rattle.sbe_types.specs.declared.kind.Leaf.{Leaf as LeafOf}
use Rattle.sbe_types.specs.declared.kind.Primitive.{Primitive}
use Rattle.sbe_types.specs.Numbers.{bytes_of, prim_width}
use Rattle.sbe_types.specs.Shown.{admits}
use Rattle.sbe_types.specs.Wire.{both}
use Rattle.var_data.specs.declared.put.PutDataErr.{PutDataErr}
use Rattle.var_data.specs.declared.put.PutDataErr.TheVariants.{Full, Length}

-- the end of n bytes of data that are put, with their length number, at an offset of `room` bytes, or why they are not
abbrev pub data_end : LeafOf → ℕ → ℕ → ℕ → Result ℕ PutDataErr
data_end leaf n room at =
    if admits leaf (pos n)
    then (if nat_le (prim_width leaf.prim + n) (room - at) then Ok (at + (prim_width leaf.prim + n)) else Err Full)
    else Err Length

-- the length number of some bytes, and the bytes
abbrev pub counted_bytes : Order → Primitive → List ℕ → Option (List ℕ)
counted_bytes order prim bytes = both (bytes_of order prim (pos (length bytes))) (Some bytes)
