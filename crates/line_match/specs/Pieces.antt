-- A line that is compared piece by piece.
use Rattle.std.specs.Prelude.{◌≡◌, ◌≤◌, ◌+◌, ◌++◌, ℕ, List, length, take}

-- these bytes are at an offset of a line
abbrev pub StandsAt : List ℕ → ℕ → List ℕ → Type 0
StandsAt line at bytes = (at + length bytes ≤ length line) × (take (at + length bytes) line ≡ take at line ++ bytes)
