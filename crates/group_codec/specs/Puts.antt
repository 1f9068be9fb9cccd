-- The dimension that is put before a group's entries. From SBE 1.0, Repeating group encoding.
use Rattle.std.specs.Prelude.{◌≡◌, ℕ, true, List, codes}
use Rattle.sbe_types.specs.declared.kind.Kind.{Comp}
use Rattle.sbe_types.specs.declared.kind.Member.{Member}
use Rattle.sbe_types.specs.Places.{members_end}
use Rattle.sbe_wire.specs.Named.{is_admitted}
use Rattle.schema_rules.specs.Counters.{holds, is_dimension}
use Rattle.schema_facts.specs.InOrder.{IsCompositeInOrder}

-- the members are a dimension of a checked schema
pub record IsWholeDim (dim : List Member) : Type 0 where
  pub exact : is_dimension dim ≡ true
  pub order : IsCompositeInOrder (Comp dim)

-- a dimension of these members takes `room` bytes, can hold the block length, and admits the count
pub record CanSay (dim : List Member) (block count room : ℕ) : Type 0 where
  pub wide : room ≡ members_end 0 dim
  pub has_room : holds dim (codes "blockLength") block ≡ true
  pub admits : is_admitted dim (codes "numInGroup") count ≡ true
