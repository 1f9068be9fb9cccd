-- The body of the message that a line holds. Own profile.
use Rattle.std.specs.Prelude.{◌≡◌, ℕ, Some, None, Ok, List}
use Rattle.sbe_types.specs.declared.schema.WireSchema.{WireSchema}
use Rattle.sbe_types.specs.declared.message.Msg.{Msg}
use Rattle.sbe_wire.specs.Canonical.{canonical}
use Rattle.sbe_wire.specs.Fits.{Fits}
use Rattle.sbe_wire.specs.Misfit.{misfit}
use Rattle.line_reading.specs.Lines.{tree_of}

-- The line holds this message, and the body is its canonical one, within the limit.
pub record IsBodyOfMessage (schema : WireSchema) (line : List ℕ) (limit : ℕ) (m : Msg) (body : List ℕ) : Type 0 where
  pub read : tree_of schema line ≡ Ok m
  pub fits : misfit schema m limit ≡ None
  pub written : canonical schema m ≡ Some body

-- the line holds a message whose canonical body this is, within the limit
abbrev pub IsBodyOf : WireSchema → List ℕ → ℕ → List ℕ → Type 0
IsBodyOf schema line limit body = (m : Msg) × IsBodyOfMessage schema line limit m body

-- The line holds a message that fits, and this is its canonical body.
pub record IsOwnBody (schema : WireSchema) (line body : List ℕ) : Type 0 where
  pub m : Msg
  pub read : tree_of schema line ≡ Ok m
  pub fits : Fits schema m
  pub written : canonical schema m ≡ Some body
