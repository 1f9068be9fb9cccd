-- What is reported of the body of a line.
use Rattle.std.specs.Prelude.{◌≡◌, ℕ, List, Some, None, Ok}
use Rattle.sbe_types.specs.declared.schema.WireSchema.{WireSchema}
use Rattle.sbe_types.specs.declared.message.Msg.{Msg}
use Rattle.sbe_wire.specs.Canonical.{canonical}
use Rattle.sbe_wire.specs.Misfit.{misfit}
use Rattle.line_reading.specs.Lines.{tree_of}
use Rattle.tree_codec.specs.Sized.{sized_err}
use Rattle.library_examples.specs.declared.bodies.BodyErr.{BodyErr}
use Rattle.library_examples.specs.declared.bodies.BodyErr.TheVariants.{Line, Misfit}
use Rattle.library_examples.specs.Lines.{IsRefused}

-- The line holds a message without a misfit within the limit, and this is its canonical body.
pub record IsBodyOf (schema : WireSchema) (line : List ℕ) (limit : ℕ) (body : List ℕ) : Type 0 where
  pub message : Msg
  pub held : tree_of schema line ≡ Ok message
  pub fits : misfit schema message limit ≡ None
  pub written : canonical schema message ≡ Some body

-- the line isn't a message; or it is one, and this is its first misfit within the limit
abbrev pub IsNoBody : WireSchema → List ℕ → ℕ → BodyErr → Type 0
IsNoBody schema line limit (Line fault) = IsRefused schema line fault
IsNoBody schema line limit (Misfit e) = (m : Msg) × (tree_of schema line ≡ Ok m) × (misfit schema m limit ≡ Some (sized_err e))
