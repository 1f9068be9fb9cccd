-- Parts at an offset of a body whose bytes there are their canonical ones.
use Rattle.std.specs.Prelude.{◌≡◌, ℕ, zero, suc, ◌+◌, Option, Some, List, [], ◌∷◌, ◌++◌, length, drop}

-- Whatever `lies` at this offset of the body ends at the next offset, and the bytes there are its own.
pub record IsWhole (X : Type 0) (lies : X → List ℕ → Type 0) (own : X → Option (List ℕ)) (body : List ℕ) (at next : ℕ) : Type 0 where
  pub ends : (x : X) (front rest : List ℕ) → drop at body ≡ front ++ rest → lies x front → next ≡ at + length front
  pub is : (x : X) (front rest : List ℕ) → drop at body ≡ front ++ rest → lies x front → own x ≡ Some front

-- steps over the items of a list, each from where the one before it ended
abbrev pub Chain : (X : Type 0) → (X → ℕ → ℕ → Type 0) → List X → ℕ → ℕ → Type 0
Chain X S [] at next = next ≡ at
Chain X S (x ∷ xs) at next = (mid : ℕ) × S x at mid × Chain X S xs mid next

-- n steps, each from where the one before it ended
abbrev pub Times : (ℕ → ℕ → Type 0) → ℕ → ℕ → ℕ → Type 0
Times S zero at next = next ≡ at
Times S (suc n) at next = (mid : ℕ) × S at mid × Times S n mid next
