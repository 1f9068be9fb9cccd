-- What an empty block requires of a level's fields, and a header or dimension of its members.
use Rattle.std.specs.Prelude.{ℕ, ◌-◌, Option, Some, List, [], ◌∷◌, replicate, ⊤}
use Rattle.sbe_types.specs.declared.kind.Order.{Order}
use Rattle.sbe_types.specs.declared.kind.Member.{Member}
use Rattle.sbe_types.specs.declared.schema.Field.{Field}
use Rattle.sbe_types.specs.Places.{begin_of, end_past}
use Rattle.sbe_types.specs.Wire.{both}
use Rattle.sbe_wire.specs.Canonical.{number_bytes_in}
use Rattle.sbe_wire.specs.Placed.{BeginsBehind}
use Rattle.schema_facts.specs.InOrder.{IsKindInOrder}
use Rattle.schema_facts.specs.Measured.{EndsWithin}

-- each member after members that end at e begins there or later, and ends within the largest offset
abbrev pub MembersStand : ℕ → List Member → Type 0
MembersStand e [] = ⊤
MembersStand e (m ∷ ms) = BeginsBehind e m.offset m.kind × EndsWithin e m.offset m.kind × MembersStand (end_past e m.offset m.kind) ms

-- the bytes of one member after members that end at e
abbrev pub member_bytes : Order → (List ℕ → ℕ) → ℕ → Member → Option (List ℕ)
member_bytes order numbers e m = both (Some (replicate (begin_of e m.offset - e) 0)) (number_bytes_in order m.kind (numbers m.name))

-- a field after fields that end at e begins there or later, ends within the largest offset, and is in order
pub record CanStand (e : ℕ) (f : Field) : Type 0 where
  pub begins : BeginsBehind e f.offset f.kind
  pub ends : EndsWithin e f.offset f.kind
  pub order : IsKindInOrder f.kind

-- the same for each field
abbrev pub FieldsStand : ℕ → List Field → Type 0
FieldsStand e [] = ⊤
FieldsStand e (f ∷ fs) = CanStand e f × FieldsStand (end_past e f.offset f.kind) fs
