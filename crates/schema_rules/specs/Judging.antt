-- The result of a check: a value where everything is in order, or the first refusal with its path.
use Rattle.std.specs.Prelude.{◌≡◌, ℕ, Bool, if◌then◌else◌, List, [], ◌∷◌, ◌++◌, Result, Ok, Err, ⊤}
use Rattle.schema_rules.specs.declared.codes.CCode.{CCode}
use Rattle.schema_rules.specs.declared.codes.CheckErr.{CheckErr}
use Rattle.schema_rules.specs.declared.codes.CheckErr.TheVariants.{Refused, Memory}

-- a rule that is broken, and the path of the element that breaks it
pub record Refusal : Type 0 where
  pub code : CCode
  pub path : List ℕ

-- A value where everything is in order, or the first refusal.
abbrev pub CheckResult : Type 0 → Type 0
CheckResult X = Result X Refusal

-- one check after another; a refusal ends it
infixl 10 ◌>>=◌
abbrev pub ◌>>=◌ : {A B : Type 0} → CheckResult A → (A → CheckResult B) → CheckResult B
(Ok x) >>= f = f x
(Err e) >>= f = Err e

-- A refusal with its code and path.
abbrev pub refused : CCode → List ℕ → Refusal
refused code path = record { code = code; path = path }

-- a refusal of the element itself
abbrev pub refuse : {A : Type 0} → CCode → CheckResult A
refuse code = Err (refused code [])

-- rules with their codes, in number order, each with whether it is broken
abbrev pub Rules : Type 0
Rules = List (CCode × Bool)

-- the refusal of the first rule that is broken, if there is one
abbrev pub first_of : Rules → CheckResult (Unit {0})
first_of [] = Ok tt
first_of (r ∷ rs) = if r.1 then refuse r.0 else first_of rs

-- the check of the element of this name; its name is put before the path
abbrev pub at_element : {A : Type 0} → List ℕ → List ℕ → CheckResult A → CheckResult A
at_element front name (Ok x) = Ok x
at_element front name (Err e) = Err (refused e.code (front ++ name ++ e.path))

-- the code answers as the check does, or that it is out of memory
abbrev pub Gives : {X : Type 0} → Result X CheckErr → CheckResult X → Type 0
Gives (Ok x) told = told ≡ Ok x
Gives (Err Memory) told = ⊤
Gives (Err (Refused code path)) told = told ≡ Err (refused code path)
