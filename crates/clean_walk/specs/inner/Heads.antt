-- A dimension that has the numbers of its names. From SBE 1.0, Message structure, and Repeating group encoding.
use Rattle.std.specs.Prelude.{ℕ, List, take, drop}
use Rattle.sbe_types.specs.declared.kind.Order.{Order}
use Rattle.sbe_types.specs.declared.schema.Group.{Group, out-Group}
use Rattle.sbe_types.specs.declared.schema.Level.{out-Level}
use Rattle.sbe_types.specs.Places.{members_end}
use Rattle.sbe_wire.specs.Canonical.{dimension_numbers}
use Rattle.clean_bodies.specs.Says.{SayNumbers}

-- the dimension of a group at an offset of a body has the declared block length and this number of entries
abbrev pub GroupSays : Order → List ℕ → Group → ℕ → ℕ → Type 0
GroupSays order body g count at =
    let dim = (out-Group g).dim in
    SayNumbers order (dimension_numbers (out-Level (out-Group g).level).block_length count) 0 dim (take (members_end 0 dim) (drop at body))
