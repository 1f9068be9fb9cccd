-- A message that was received, and what is refused of the message of a text. Own profile.
use Rattle.std.specs.Prelude.{◌≡◌, ◌⊎◌, ℕ, List, [], ◌∷◌, Some, IsTrue, slice_get}
use Rattle.byte_digits.specs.Digits.{IsBytes}
use Rattle.sbe_types.specs.declared.schema.Level.{Level}
use Rattle.sbe_types.specs.declared.schema.WireSchema.{WireSchema}
use Rattle.sbe_types.specs.declared.message.Msg.{Msg}
use Rattle.sbe_types.specs.declared.message.Value.{Value}
use Rattle.sbe_wire.specs.Lays.{Lays}
use Rattle.schema_facts.specs.IsChecked.{IsChecked}
use Rattle.bridge_rules.specs.Rules.{Rule}
use Rattle.bridge_rules.specs.Again.{has_far_exponent}
use Rattle.bridge_terms.specs.Plans.{Plan, Tree, done, single, group}

-- The message lies in a body of bytes, by a checked schema, and the level is its template. It may be of any version.
pub record IsReceived (schema : WireSchema) (level : Level) (message : Msg) (body : List ℕ) : Type 0 where
  pub checked : IsChecked schema
  pub template : slice_get schema.messages message.template ≡ Some level
  pub bytes : IsBytes body
  pub lies : Lays schema message body

-- the property holds of one of the items
abbrev pub AnyOf : {X : Type 0} → (X → Type 0) → List X → Type 0
AnyOf P [] = ⊥
AnyOf P (x ∷ xs) = P x ⊎ AnyOf P xs

-- P holds of one of the values, by the tag and the rule of its place
abbrev pub SomeValue : (ℕ → Rule → Value → Type 0) → (p : Plan) → Tree Value p → Type 0
SomeValue P done t = ⊥
SomeValue P (single s rest) t = P s.tag s.rule t.0 ⊎ SomeValue P rest t.1
SomeValue P (group g inner rest) t = AnyOf (λ e. SomeValue P inner e) t.0 ⊎ SomeValue P rest t.1

-- the value with this tag is a decimal whose exponent is outside the range in which decimals are shown
abbrev pub IsFarAt : ℕ → ℕ → Rule → Value → Type 0
IsFarAt tag own rule v = (own ≡ tag) × IsTrue (has_far_exponent rule v)
