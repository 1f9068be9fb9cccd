-- What is read of a file: a value, or the first refusal with its place.
use Rattle.std.specs.Prelude.{◌≡◌, ℕ, List, [], ◌∷◌, ◌++◌, codes, decimal, Result, Ok, Err, ⊤}
use Rattle.json_elements.specs.declared.refusal.Cause.{Cause}
use Rattle.json_elements.specs.declared.refusal.Step.{Step}
use Rattle.json_elements.specs.declared.refusal.Step.TheVariants.{Name, Item}
use Rattle.json_elements.specs.declared.refusal.ElementErr.{ElementErr}
use Rattle.json_elements.specs.declared.refusal.ElementErr.TheVariants.{Refused, Memory}

-- why a file is refused, and where: a JSON pointer (RFC 6901)
pub record Refusal : Type 0 where
  pub cause : Cause
  pub path : List ℕ

-- What is read, or its first refusal.
abbrev pub Reading : Type 0 → Type 0
Reading X = Result X Refusal

-- continues with what was read
infixl 10 ◌>>=◌
abbrev pub ◌>>=◌ : {A B : Type 0} → Reading A → (A → Reading B) → Reading B
(Ok x) >>= f = f x
(Err e) >>= f = Err e

-- A refusal with its cause and place.
abbrev pub refusal : Cause → List ℕ → Refusal
refusal cause path = record { cause = cause; path = path }

-- a refusal of the element itself
abbrev pub refuse : {A : Type 0} → Cause → Reading A
refuse cause = Err (refusal cause [])

-- a refusal one step below, with its path from here
abbrev pub below : List ℕ → Refusal → Refusal
below step e = refusal e.cause (codes "/" ++ (step ++ e.path))

-- what is read one step below, with its path from here
abbrev pub inside : {A : Type 0} → List ℕ → Reading A → Reading A
inside step (Ok x) = Ok x
inside step (Err e) = Err (below step e)

-- what is read of the child at an index, with its path from the element around it
abbrev pub at_child : {A : Type 0} → ℕ → Reading A → Reading A
at_child i read = inside (codes "content") (inside (decimal i) read)

-- the text of a step
abbrev pub step_text : Step → List ℕ
step_text (Name name) = name.now
step_text (Item i) = decimal i

-- the pointer for steps, of which the innermost comes first
abbrev pub pointer : List Step → List ℕ
pointer [] = []
pointer (step ∷ steps) = pointer steps ++ (codes "/" ++ step_text step)

-- one step further out, unless out of memory
abbrev pub GoesOut : Step → ElementErr → ElementErr → Type 0
GoesOut step e Memory = ⊤
GoesOut step Memory (Refused cause steps) = ⊥
GoesOut step (Refused inner near) (Refused cause steps) = (cause ≡ inner) × (steps ≡ near ++ step ∷ [])

-- the answer is what is read, unless it is out of memory
abbrev pub GivesAs : {X Y : Type 0} → (X → Y) → Result X ElementErr → Reading Y → Type 0
GivesAs seen (Ok x) read = read ≡ Ok (seen x)
GivesAs seen (Err Memory) read = ⊤
GivesAs seen (Err (Refused cause steps)) read = read ≡ Err (refusal cause (pointer steps))

-- The answer is this reading, unless it is out of memory.
abbrev pub Gives : {X : Type 0} → Result X ElementErr → Reading X → Type 0
Gives = GivesAs (λ x. x)
