-- The bytes of each value of a block show a value of its kind. The values are those of the definitions.
use Rattle.std.specs.Prelude.{◌≡◌, ℕ, Bool, true, List, take, drop}
use Rattle.std.specs.List.{AllByRecursion}
use Rattle.sbe_types.specs.declared.kind.Kind.{Kind}
use Rattle.sbe_types.specs.declared.kind.Order.{Order}
use Rattle.sbe_types.specs.declared.message.Value.{Value}
use Rattle.sbe_types.specs.declared.schema.Field.{Field}
use Rattle.sbe_types.specs.Places.{width}
use Rattle.sbe_types.specs.Shows.{Shows}
use Rattle.sbe_wire.specs.Versions.{is_alive}
use Rattle.flat_rows.specs.Scalars.{Scalar}

-- every field exists at the version
abbrev pub AllAlive : ℕ → List Field → Type 0
AllAlive version fields = AllByRecursion (λ (f : Field). is_alive version f.since ≡ true) fields

-- the bytes of a kind that begin at an offset of the block
abbrev pub bytes_there : Kind → ℕ → List ℕ → List ℕ
bytes_there kind place block = take (width kind) (drop place block)

-- the bytes show some value of the kind
abbrev pub ShowsSome : Order → Bool → Kind → List ℕ → Type 0
ShowsSome order known kind bytes = (v : Value) × Shows order known kind v bytes

-- the bytes of each value in the block show a value of its kind
abbrev pub ScalarsShow : Order → Bool → List Scalar → List ℕ → Type 0
ScalarsShow order known scalars block = AllByRecursion (λ (s : Scalar). ShowsSome order known s.kind (bytes_there s.kind s.place block)) scalars
