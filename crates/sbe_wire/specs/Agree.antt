-- What it means that a program agrees with the definitions. Own profile.
use Rattle.std.specs.Prelude.{◌≡◌, ℕ, Result, Ok, Err, List, ◌++◌}
use Rattle.sbe_wire.specs.Faults.{Fault}
use Rattle.sbe_wire.specs.Reading.{Reader}

-- A reader reads what lies at the front, whatever follows, and gives the first fault.
pub record Reads {X : Type 0} (p : Reader X) (R : X → List ℕ → Type 0) (F : Fault → List ℕ → Type 0) : Type 0 where
  -- what is read lies there
  pub sound : (b : List ℕ) (x : X) (rest : List ℕ) → p b ≡ Ok (x, rest) → (front : List ℕ) × (b ≡ front ++ rest) × R x front
  -- what lies there is read
  pub complete : (x : X) (front rest : List ℕ) → R x front → p (front ++ rest) ≡ Ok (x, rest)
  -- a fault that is given is the first one
  pub told : (b : List ℕ) (f : Fault) → p b ≡ Err f → F f b
  -- the first fault is given
  pub only : (b : List ℕ) (f : Fault) → F f b → p b ≡ Err f

-- The same for a check, which is given all the bytes of a thing. `Given` is the condition on these bytes.
pub record Judges {A X : Type 0} (Given : A → Type 0) (q : A → Result X Fault) (R : X → A → Type 0) (F : Fault → A → Type 0) : Type 0 where
  pub sound : (a : A) (x : X) → Given a → q a ≡ Ok x → R x a
  pub complete : (a : A) (x : X) → R x a → q a ≡ Ok x
  pub told : (a : A) (f : Fault) → Given a → q a ≡ Err f → F f a
  pub only : (a : A) (f : Fault) → F f a → q a ≡ Err f
