-- The bit of a choice. From SBE 1.0, Field encoding.
use Rattle.std.specs.Prelude.{ℕ, nat_lt, if◌then◌else◌, Option, Some, None, ℤ, pos, negsuc}

-- the position of a bit, if it is one of 64
abbrev pub bit_of : ℤ → Option ℕ
bit_of (pos k) = if nat_lt k 64 then Some k else None
bit_of (negsuc k) = None
