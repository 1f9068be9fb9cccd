-- Bodies that are the canonical ones of the messages that lie in them, at the schema's own version.
use Rattle.std.specs.Prelude.{◌≡◌, ℕ, List, Some, slice_get}
use Rattle.sbe_types.specs.declared.schema.Level.{Level}
use Rattle.sbe_types.specs.declared.schema.WireSchema.{WireSchema}
use Rattle.sbe_types.specs.declared.message.Msg.{Msg}
use Rattle.sbe_wire.specs.Canonical.{canonical}
use Rattle.sbe_wire.specs.Lays.{Lays}

-- this body is the canonical one of every message with this root that lies in it
abbrev pub IsCanonicalRoot : WireSchema → Level → List ℕ → Type 0
IsCanonicalRoot schema level body =
    (m : Msg) → m.version ≡ schema.version → slice_get schema.messages m.template ≡ Some level → Lays schema m body → canonical schema m ≡ Some body

-- the same for the messages of a template
abbrev pub IsCanonicalOf : WireSchema → ℕ → List ℕ → Type 0
IsCanonicalOf schema template body = (m : Msg) → m.template ≡ template → m.version ≡ schema.version → Lays schema m body → canonical schema m ≡ Some body
