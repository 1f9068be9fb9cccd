-- What is known of the first misfit of a message: where its path leads, and which number a body over the limit is
-- reported with. Own profile.
use Rattle.std.specs.Prelude.{◌≡◌, ◌<◌, ◌+◌, ◌^◌, ℕ, ℤ, pos, [], Some, slice_get}
use Rattle.std.specs.Option.{IsSome}
use Rattle.sbe_types.specs.declared.schema.WireSchema.{WireSchema}
use Rattle.sbe_types.specs.declared.message.Msg.{Msg}
use Rattle.sbe_wire.specs.declared.codes.NCode.TheVariants.{Full}
use Rattle.sbe_wire.specs.Misfit.{Misfit, misfit}
use Rattle.schema_facts.specs.IsChecked.{IsChecked}
use Rattle.layout_tables.specs.Paths.{IsPathOf}

-- ---- the path

-- the path of a misfit leads from the root of its message's template to one of its parts
abbrev pub MisfitsHaveWays : Type 0
MisfitsHaveWays =
    (schema : WireSchema) (m : Msg) (limit : ℕ) (why : Misfit) → IsChecked schema → IsSome (slice_get schema.messages m.template) → misfit schema m limit ≡ Some why
    → IsPathOf schema m.template why.path

-- ---- a body over the limit

-- A part has fewer bytes than this: a header with a block, a dimension, or data with its length.
abbrev pub part_bound : ℕ
part_bound = 2 ^ 33

-- The detail is a number of bytes that is above the limit, by less than a part can have.
pub record IsWanted (limit : ℕ) (detail : ℤ) : Type 0 where
  pub bytes : ℕ
  pub told : detail ≡ pos bytes
  pub over : limit < bytes
  pub near : bytes < limit + part_bound

-- the misfit of a body over the limit has no path
abbrev pub WantIsOfAll : Type 0
WantIsOfAll = (schema : WireSchema) (m : Msg) (limit : ℕ) (why : Misfit) → IsChecked schema → misfit schema m limit ≡ Some why → why.code ≡ Full → why.path ≡ []

-- its detail is the number of bytes up to the end of the first part that exceeds the limit
abbrev pub WantIsNear : Type 0
WantIsNear = (schema : WireSchema) (m : Msg) (limit : ℕ) (why : Misfit) → IsChecked schema → misfit schema m limit ≡ Some why → why.code ≡ Full → IsWanted limit why.detail

-- if the limit is a number of 64 bits, the detail is below 2^65
abbrev pub WantIsSmall : Type 0
WantIsSmall =
    (schema : WireSchema) (m : Msg) (limit : ℕ) (why : Misfit) → IsChecked schema → limit < 2 ^ 64 → misfit schema m limit ≡ Some why → why.code ≡ Full
    → (n : ℕ) × (why.detail ≡ pos n) × (n < 2 ^ 65)
