-- A message without a misfit has its canonical body, within the limit.
use Rattle.std.proofs.Common.{◌≡◌, ◌≤◌, ℕ, List, length, Some, None}
use Rattle.sbe_types.specs.declared.schema.WireSchema.{WireSchema}
use Rattle.sbe_types.specs.declared.message.Msg.{Msg}
use Rattle.sbe_wire.specs.Misfit.{misfit}
use Rattle.sbe_wire.specs.Canonical.{canonical}
use Rattle.schema_facts.specs.IsChecked.{IsChecked}
use Rattle.writing_laws.proofs.MessageMisfit.{none_fits}
use Rattle.writable_schemas.proofs.CheckedSchemas.{schema_writable}

pub body_there : (schema : WireSchema) (m : Msg) (limit : ℕ) → IsChecked schema → misfit schema m limit ≡ None → (body : List ℕ) × (canonical schema m ≡ Some body) × (length body ≤ limit)
body_there schema m limit checked none =
    let fits = none_fits schema m limit checked.placed (schema_writable schema checked) none in
    (fits.1.0, fits.1.1, fits.1.2)
