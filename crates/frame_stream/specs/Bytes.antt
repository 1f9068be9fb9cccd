-- The bytes before the first occurrence of a byte. Own profile.
use Rattle.std.specs.Prelude.{ℕ, ◌==◌, if◌then◌else◌, Option, Some, None, List, [], ◌∷◌}
use Rattle.open_framing.specs.Lines.{with_byte}

-- the bytes before the first occurrence of this byte, if there is one
abbrev pub before_byte : ℕ → List ℕ → Option (List ℕ)
before_byte byte [] = None
before_byte byte (b ∷ bytes) = if b == byte then Some [] else with_byte b (before_byte byte bytes)
