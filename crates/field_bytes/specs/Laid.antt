-- A piece of bytes that is put at an offset of others.
use Rattle.std.specs.Prelude.{◌≡◌, ℕ, ◌+◌, Option, Some, List, ◌++◌, length, take, drop}

-- the bytes with a piece over those at an offset
abbrev pub laid_at : ℕ → List ℕ → List ℕ → List ℕ
laid_at at piece old = take at old ++ (piece ++ drop (at + length piece) old)

-- the piece was put at an offset of the old bytes; all others are as they were
abbrev pub IsPut : Option (List ℕ) → ℕ → List ℕ → List ℕ → Type 0
IsPut piece at old new = (bytes : List ℕ) × (piece ≡ Some bytes) × (new ≡ laid_at at bytes old)
