-- What was read is written again as the same bytes exactly where they are canonical.
use Rattle.std.proofs.Common.{◌≡◌, ℕ, List, Some, Ok, sym, ◌∙◌, subst}
use Rattle.std.specs.Prelude.{◌↔◌}
use Rattle.byte_digits.specs.Digits.{IsBytes}
use Rattle.sbe_types.specs.declared.schema.WireSchema.{WireSchema}
use Rattle.sbe_types.specs.declared.message.Msg.{Msg}
use Rattle.sbe_wire.specs.Lays.{Lays}
use Rattle.sbe_wire.specs.Canonical.{canonical}
use Rattle.sbe_wire.specs.Fits.{Fits}
use Rattle.sbe_wire.specs.Reading.{message_of}
use Rattle.sbe_wire.specs.Placed.{IsPlaced}
use Rattle.sbe_wire.proofs.Messages.{message_judges, one_message}
use Rattle.writing_laws.specs.Writable.{IsWritable}
use Rattle.writing_laws.proofs.Numerals.{some_is}
use Rattle.writing_laws.proofs.MessageBack.{lies_fits}
use Rattle.writing_laws.proofs.MessageWritten.{fits_lies}

module _ (schema : WireSchema) (placed : IsPlaced schema) (writable : IsWritable schema) where
  -- the canonical body of a message that fits is read as the message
  pub body_lies : (m : Msg) → Fits schema m → (body : List ℕ) → canonical schema m ≡ Some body → Lays schema m body
  body_lies m fits body is =
      let written = fits_lies schema placed writable m fits in
      subst (Lays schema m) (some_is (sym written.1 ∙ is)) written.2

  pub body_read : (m : Msg) → Fits schema m → (body : List ℕ) → canonical schema m ≡ Some body → message_of schema body ≡ Ok m
  body_read m fits body is = (message_judges schema placed).complete body m (body_lies m fits body is)

  -- the body is the canonical one of some message that fits
  abbrev pub IsCanonical : List ℕ → Type 0
  IsCanonical body = (n : Msg) × Fits schema n × (canonical schema n ≡ Some body)

  pub read_written : (m : Msg) (body : List ℕ) → IsBytes body → m.version ≡ schema.version → Lays schema m body → (canonical schema m ≡ Some body) ↔ IsCanonical body
  read_written m body good own lies = (
    λ is. (m, lies_fits schema placed writable m body good own lies, is),
    λ h. subst (λ n. canonical schema n ≡ Some body) (one_message schema placed h.0 m body (body_lies h.0 h.1 body h.2) lies) h.2,
  )

  pub written_again : (m : Msg) (body : List ℕ) → IsBytes body → m.version ≡ schema.version → Lays schema m body → (written : List ℕ) × (canonical schema m ≡ Some written) × Lays schema m written
  written_again m body good own lies = fits_lies schema placed writable m (lies_fits schema placed writable m body good own lies)
