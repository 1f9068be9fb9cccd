-- Attributes: each is present or missing, and of its form or not.
use Rattle.std.specs.Prelude.{ℕ, List, Option, Some, None, Ok, Err}
use Rattle.serde_json.specs.Data.{Data}
use Rattle.serde_json.specs.Find.{get}
use Rattle.json_elements.specs.declared.refusal.Cause.TheVariants.{Missing}
use Rattle.json_elements.specs.Reading.{Reading, refuse, inside}

-- An attribute that must be present, read by its form.
abbrev pub needed_in : {A : Type 0} → (Data → Reading A) → Option Data → Reading A
needed_in form None = refuse Missing
needed_in form (Some d) = form d

-- an attribute that must be present
abbrev pub needed : {A : Type 0} → (Data → Reading A) → List ℕ → Data → Reading A
needed form key d = inside key (needed_in form (get key d))

-- An attribute that has a default, read by its form.
abbrev pub default_in : {A : Type 0} → A → (Data → Reading A) → Option Data → Reading A
default_in otherwise form None = Ok otherwise
default_in otherwise form (Some d) = form d

-- an attribute with a default
abbrev pub with_default : {A : Type 0} → A → (Data → Reading A) → List ℕ → Data → Reading A
with_default otherwise form key d = inside key (default_in otherwise form (get key d))

-- What was read, as a value that is present.
abbrev pub given : {A : Type 0} → Reading A → Reading (Option A)
given (Ok x) = Ok (Some x)
given (Err e) = Err e

-- an attribute that may be missing
abbrev pub optional : {A : Type 0} → (Data → Reading A) → List ℕ → Data → Reading (Option A)
optional form = with_default None (λ d. given (form d))
