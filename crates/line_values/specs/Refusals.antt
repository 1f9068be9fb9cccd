-- What is read of a line: a value, or the first refusal with its place.
use Rattle.std.specs.Prelude.{◌≡◌, ℕ, List, ◌++◌, Option, Some, None, Result, Ok, Err, ⊤}
use Rattle.line_values.specs.declared.refusals.JCode.{JCode}
use Rattle.line_values.specs.declared.refusals.LineFault.{LineFault}
use Rattle.line_values.specs.declared.refusals.LineFault.TheVariants.{Refused, Memory}

-- why a line is refused, and at which place
pub record Refusal : Type 0 where
  pub code : JCode
  pub place : List ℕ

-- what is read, or its first refusal
abbrev pub Reading : Type 0 → Type 0
Reading X = Result X Refusal

-- continues with what was read
infixl 10 ◌>>=◌
abbrev pub ◌>>=◌ : {A B : Type 0} → Reading A → (A → Reading B) → Reading B
(Ok x) >>= f = f x
(Err e) >>= f = Err e

-- a refusal with its code and place
abbrev pub refusal : JCode → List ℕ → Refusal
refusal code place = record { code = code; place = place }

-- a refusal instead of a value
abbrev pub refuse : {A : Type 0} → JCode → List ℕ → Reading A
refuse code place = Err (refusal code place)

-- the value if it is there, else a refusal
abbrev pub or_refuse : {A : Type 0} → JCode → List ℕ → Option A → Reading A
or_refuse code place None = refuse code place
or_refuse code place (Some x) = Ok x

-- what is read one step below, with its place from here
abbrev pub inside : {A : Type 0} → List ℕ → Reading A → Reading A
inside step (Ok x) = Ok x
inside step (Err e) = Err (refusal e.code (step ++ e.place))

-- the answer is what a reading gives, as `view` shows it; out of memory is always allowed
abbrev pub GivesAs : {X Y : Type 0} → (X → Y) → Result X LineFault → Reading Y → Type 0
GivesAs view (Ok x) read = read ≡ Ok (view x)
GivesAs view (Err Memory) read = ⊤
GivesAs view (Err (Refused code place)) read = read ≡ Err (refusal code place)

-- the answer is what a reading gives; out of memory is always allowed
abbrev pub Gives : {X : Type 0} → Result X LineFault → Reading X → Type 0
Gives = GivesAs (λ x. x)
