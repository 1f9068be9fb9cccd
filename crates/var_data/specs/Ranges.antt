-- Where data that begin at an offset of some bytes are. From SBE 1.0, Variable-length data.
use Rattle.std.specs.Prelude.{ℕ, ◌+◌, ◌-◌, nat_le, if◌then◌else◌, Result, Ok, Err, List, length, take, drop, pos}
use Rattle.sbe_types.specs.declared.kind.Order.{Order}
use Rattle.sbe_types.specs.declared.kind.Leaf.{Leaf as LeafOf}
use Rattle.sbe_types.specs.Numbers.{number_of, natural, prim_width}
use Rattle.sbe_types.specs.Shown.{admits}
use Rattle.var_data.specs.declared.data.DataErr.{DataErr}
use Rattle.var_data.specs.declared.data.DataErr.TheVariants.{Truncated, Length}

-- the range of n bytes of data that begin at an offset, after a length number of this type, or why there are none
abbrev pub range_behind : LeafOf → ℕ → List ℕ → ℕ → Result (ℕ × ℕ) DataErr
range_behind leaf n bytes start =
    if admits leaf (pos n)
    then (if nat_le n (length bytes - start) then Ok (start, start + n) else Err (Truncated (prim_width leaf.prim + n)))
    else Err (Length n)

-- the range of the bytes of data whose length number begins at an offset, or why there are none
abbrev pub data_range : Order → LeafOf → List ℕ → ℕ → Result (ℕ × ℕ) DataErr
data_range order leaf bytes at =
    let wide = prim_width leaf.prim in
    if nat_le wide (length bytes - at)
    then range_behind leaf (natural (number_of order leaf.prim (take wide (drop at bytes)))) bytes (at + wide)
    else Err (Truncated wide)
