-- Bodies that are copied from one schema to another. Own profile.
use Rattle.std.specs.Prelude.{◌≡◌, ◌++◌, ℕ, Some, IfSome, Ok, List, slice_get}
use Rattle.sbe_types.specs.declared.schema.Level.{Level, out-Level}
use Rattle.sbe_types.specs.declared.schema.WireSchema.{WireSchema}
use Rattle.sbe_types.specs.declared.message.Msg.{Msg}
use Rattle.sbe_wire.specs.Canonical.{canonical}
use Rattle.sbe_wire.specs.Faults.{message_named}
use Rattle.sbe_wire.specs.Fits.{Fits}
use Rattle.sbe_wire.specs.Lays.{Lays}
use Rattle.typed_writer.specs.Steps.{header_in}
use Rattle.regrade_laws.specs.Regraded.{regraded}
use Rattle.regrade_laws.specs.Counts.{dropped, filled}
use Rattle.version_copies.specs.declared.twins.Twin.{Twin}
use Rattle.version_copies.specs.declared.copies.Copied.{Copied}

-- A template has the same root in both schemas, and this number in `to`.
pub record IsSame (from to : WireSchema) (template place : ℕ) : Type 0 where
  pub level : Level
  pub at : slice_get from.messages template ≡ Some level
  pub named : message_named 0 (out-Level level).id to.messages ≡ Some (place, level)
  pub order : from.order ≡ to.order

-- the same, with the header of the template's messages in `to`
abbrev pub HasHeader : WireSchema → WireSchema → ℕ → List ℕ → Type 0
HasHeader from to template header = (place : ℕ) × IsSame from to template place × (header_in to place ≡ Some header)

-- if a twin has a header, its template is the same in both schemas
abbrev pub IsTwin : WireSchema → WireSchema → Twin → Type 0
IsTwin from to twin = IfSome twin.header (λ header. HasHeader from to twin.template header)

-- The message in a body is rewritten without a part that is dropped or filled in, and `bytes` are what is written of it.
pub record IsCopied (from to : WireSchema) (body bytes : List ℕ) : Type 0 where
  pub m : Msg
  pub n : Msg
  pub lies : Lays from m body
  pub told : regraded from to m ≡ Ok n
  pub none_dropped : dropped from to m ≡ 0
  pub none_filled : filled from to m ≡ 0
  pub fits : Fits to n
  pub written : canonical to n ≡ Some bytes

-- the bytes of a copy
abbrev pub copy_bytes : Copied → List ℕ
copy_bytes copy = copy.header.now ++ copy.rest.now
