-- Bytes cut into as many pieces as possible, and the rest after them. Own profile.
use Rattle.std.specs.Prelude.{◌≡◌, ◌≢◌, ℕ, zero, suc, List, [], ◌∷◌, ◌++◌, length, drop, Option, Some, None}
use Rattle.std.specs.List.{flat_map, AllByRecursion}

-- the bytes of the pieces, concatenated
abbrev pub concat_pieces : {X : Type 0} → (X → List ℕ) → List X → List ℕ
concat_pieces bytes_of pieces = flat_map bytes_of pieces

-- The bytes are these pieces and then the rest, and the rest doesn't begin with another piece.
pub record Pieces {X : Type 0} (IsPiece : X → Type 0) (bytes_of : X → List ℕ) (bytes : List ℕ) (pieces : List X) (rest : List ℕ) : Type 0 where
  pub whole : bytes ≡ concat_pieces bytes_of pieces ++ rest
  pub each : AllByRecursion IsPiece pieces
  pub longest : (x : X) (more : List ℕ) → IsPiece x → rest ≢ bytes_of x ++ more

-- one piece before those that a reader finds after it
abbrev pub then_pieces : {X : Type 0} → (X → List ℕ) → (List ℕ → List X) → List ℕ → Option X → List X
then_pieces bytes_of later bytes None = []
then_pieces bytes_of later bytes (Some x) = x ∷ later (drop (length (bytes_of x)) bytes)

-- up to n pieces, found by a reader of the first one
unfoldable pub pieces_in : {X : Type 0} → (List ℕ → Option X) → (X → List ℕ) → ℕ → List ℕ → List X
pieces_in first bytes_of zero bytes = []
pieces_in first bytes_of (suc n) bytes = then_pieces bytes_of (pieces_in first bytes_of n) bytes (first bytes)

-- what follows the pieces
abbrev pub rest_of : {X : Type 0} → (X → List ℕ) → List ℕ → List X → List ℕ
rest_of bytes_of bytes pieces = drop (length (concat_pieces bytes_of pieces)) bytes
