-- Runs of bytes in a range.
use Rattle.std.specs.Prelude.{ℕ, Bool, not, nat_le, ◌&&◌, ◌==◌, if◌then◌else◌}
use Rattle.std.specs.Int.{w64, trailing_zeros}

-- the byte is within the range from `low` to `high`
abbrev pub lies_between : ℕ → ℕ → ℕ → Bool
lies_between low high b = nat_le low b && nat_le b high

-- the byte isn't 00
abbrev pub is_set : ℕ → Bool
is_set b = not (b == 0)

-- the position of the lowest bit that is set, or n
abbrev pub first_set : ℕ → ℕ → ℕ
first_set mask n = if mask == 0 then n else trailing_zeros w64 mask
