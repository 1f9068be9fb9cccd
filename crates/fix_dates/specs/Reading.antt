-- What it means to show a value as a text, and to read a text as a value. Own profile: the refusals and their order.
use Rattle.std.specs.Prelude.{◌≡◌, ◌≢◌, Result, Ok, Err, List, [], ℕ}
use Rattle.fix_values.specs.declared.rule.V.{V}
use Rattle.fix_values.specs.declared.rule.V.TheVariants.{Spelling, Range, Inexact, Soh, Empty, UnknownCode}

-- A kind of text: the text of its parts, whether each part fits its digits, whether the parts are in their ranges, and
-- which value they stand for.
pub record Kind (Parts Value : Type 0) : Type 1 where
  pub text : Parts → List ℕ
  pub Fits : Parts → Type 0
  pub Real : Parts → Type 0
  pub Stands : Parts → Value → Type 0

-- The text spells parts that are in their ranges and stand for this value.
pub record Spells {Parts Value : Type 0} (kind : Kind Parts Value) (text : List ℕ) (value : Value) : Type 0 where
  pub parts : Parts
  pub fits : kind.Fits parts
  pub spelled : text ≡ kind.text parts
  pub real : kind.Real parts
  pub stands : kind.Stands parts value

-- The text has the form of the kind, but a part isn't in its range.
pub record OutOfRange {Parts Value : Type 0} (kind : Kind Parts Value) (text : List ℕ) : Type 0 where
  pub parts : Parts
  pub fits : kind.Fits parts
  pub spelled : text ≡ kind.text parts
  pub unreal : ¬ (kind.Real parts)

-- The parts are in their ranges, but no value is exactly what they stand for.
pub record NotExact {Parts Value : Type 0} (kind : Kind Parts Value) (text : List ℕ) : Type 0 where
  pub parts : Parts
  pub fits : kind.Fits parts
  pub spelled : text ≡ kind.text parts
  pub real : kind.Real parts
  pub inexact : (value : Value) → ¬ (kind.Stands parts value)

-- What reading a text answers: its form is checked first, then the ranges, then whether it is exact.
abbrev pub Reads : {Parts Value : Type 0} → Kind Parts Value → List ℕ → Result Value V → Type 0
Reads kind text (Ok value) = Spells kind text value
Reads {Parts} kind text (Err Spelling) = (parts : Parts) → kind.Fits parts → text ≢ kind.text parts
Reads kind text (Err Range) = OutOfRange kind text
Reads kind text (Err Inexact) = NotExact kind text
Reads kind text (Err Soh) = ⊥
Reads kind text (Err Empty) = ⊥
Reads kind text (Err UnknownCode) = ⊥

-- What showing a value answers and leaves: a text that spells it, or nothing if no text does.
abbrev pub Shows : {Parts Value Done : Type 0} → Kind Parts Value → Value → Result Done V → List ℕ → Type 0
Shows kind value (Ok done) out = Spells kind out value
Shows kind value (Err Spelling) out = ⊥
Shows kind value (Err Range) out = (out ≡ []) × ((text : List ℕ) → ¬ (Spells kind text value))
Shows kind value (Err Inexact) out = ⊥
Shows kind value (Err Soh) out = ⊥
Shows kind value (Err Empty) out = ⊥
Shows kind value (Err UnknownCode) out = ⊥
