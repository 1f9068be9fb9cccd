-- Where the parts of a body are.
use Rattle.std.specs.Prelude.{ℕ, List}
use Rattle.sbe_types.specs.declared.schema.WireSchema.{WireSchema}
use Rattle.clean_bodies.specs.Steps.{Place}

-- parts of this body, at the schema's own version
abbrev pub place_in : WireSchema → List ℕ → Place
place_in schema body = record { order = schema.order; version = schema.version; body = body }
