-- What a walk over the fields of a body finds, without a table. Own profile.
use Rattle.std.specs.Prelude.{◌≡◌, ℕ, ◌+◌, ◌<◌, ◌≤◌, false, Option, Some, None, List, length}
use Rattle.std.specs.Result.{is_ok}
use Rattle.tagvalue_codec.specs.declared.data_tags.Pair.{Pair}
use Rattle.tagvalue_codec.specs.declared.table.FixField.{FixField}
use Rattle.tagvalue_codec.specs.declared.table.TheConstants.{FIELD_LIMIT}
use Rattle.tagvalue_codec.specs.Texts.{Free}
use Rattle.tagvalue_codec.specs.Places.{filled}

-- a walk that has passed so many fields and is at an offset
pub record Step : Type 0 where
  pub many : ℕ
  pub at : ℕ

-- the step with these parts
abbrev pub step : ℕ → ℕ → Step
step many at = record { many = many; at = at }

-- a walk that comes to the first step goes on to the second one
abbrev pub GoesOn : List Pair → List ℕ → Step → Step → Type 0
GoesOn tags front a b =
    (table : List FixField) → length table ≡ a.many → (after : List FixField) × (length after ≡ b.many) × (filled tags Free table a.at front ≡ filled tags Free after b.at front)

-- a walk that comes to this step ends with a fault
abbrev pub Stops : List Pair → List ℕ → Step → Type 0
Stops tags front a = (table : List FixField) → length table ≡ a.many → is_ok (filled tags Free table a.at front) ≡ false

-- The walk passes so many fields, up to an offset. More fields than there may be are a fault.
pub record Passed (tags : List Pair) (front : List ℕ) (a b : Step) : Type 0 where
  pub on : b.many ≤ FIELD_LIMIT → GoesOn tags front a b
  pub full : FIELD_LIMIT < b.many → Stops tags front a

-- one field or two were passed, or there is a fault
abbrev pub PassesIf : List Pair → List ℕ → Step → Option (ℕ × ℕ) → Type 0
PassesIf tags front a None = Stops tags front a
PassesIf tags front a (Some r) = Passed tags front a (step (a.many + r.0) r.1)
