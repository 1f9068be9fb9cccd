-- Numbers of a header, which is at the front of a body. From SBE 1.0, Message structure.
use Rattle.std.specs.Prelude.{ℕ, nat_lt, if◌then◌else◌, Option, Some, None, List, length, take, drop}
use Rattle.sbe_types.specs.declared.kind.Order.{Order}
use Rattle.sbe_types.specs.declared.schema.WireSchema.{WireSchema}
use Rattle.sbe_types.specs.Numbers.{number_of, natural, prim_width}
use Rattle.sbe_types.specs.Places.{members_end}
use Rattle.sbe_wire.specs.Named.{Spot, number_named}

-- the number at a spot of a composite's bytes
abbrev pub number_at : Order → Spot → List ℕ → ℕ
number_at order spot bytes = natural (number_of order spot.leaf.prim (take (prim_width spot.leaf.prim) (drop spot.place bytes)))

-- how many bytes the header has
abbrev pub header_width : WireSchema → ℕ
header_width schema = members_end 0 schema.header.members

-- the header's number with this name; None if the body is shorter than the header
abbrev pub header_number : WireSchema → List ℕ → List ℕ → Option ℕ
header_number schema name body =
    if nat_lt (length body) (header_width schema) then None else Some (number_named schema.order schema.header.members name (take (header_width schema) body))
