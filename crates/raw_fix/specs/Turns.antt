-- Items in order, where an item may depend on all the bytes from its offset on. Own profile.
use Rattle.std.specs.Prelude.{◌≡◌, ℕ, zero, suc, List, [], ◌∷◌, ◌++◌, length, drop, Option, Some, None}

-- The bytes are those of these items, one after another, and then the rest, and each item is the one at its offset.
abbrev pub InTurn : {X : Type 0} → (List ℕ → X → Type 0) → (X → List ℕ) → List ℕ → List X → List ℕ → Type 0
InTurn At bytes_of bytes [] rest = bytes ≡ rest
InTurn At bytes_of bytes (x ∷ xs) rest = At bytes x × ((more : List ℕ) × (bytes ≡ bytes_of x ++ more) × InTurn At bytes_of more xs rest)

-- one item before those that a reader finds after it
abbrev pub then_turns : {X : Type 0} → (X → List ℕ) → (List ℕ → List X) → List ℕ → Option X → List X
then_turns bytes_of later bytes None = []
then_turns bytes_of later bytes (Some x) = x ∷ later (drop (length (bytes_of x)) bytes)

-- up to n items, each found by a reader of the first one
unfoldable pub turns_in : {X : Type 0} → (List ℕ → Option X) → (X → List ℕ) → ℕ → List ℕ → List X
turns_in first bytes_of zero bytes = []
turns_in first bytes_of (suc n) bytes = then_turns bytes_of (turns_in first bytes_of n) bytes (first bytes)
