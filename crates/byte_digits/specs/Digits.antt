-- Numbers in bytes: base-256 digits, most significant or least significant first. From SBE 1.0, Field encoding: its two
-- byte orders.
use Rattle.std.specs.Prelude.{ℕ, zero, suc, ◌+◌, ◌*◌, ◌/◌, ◌%◌, ◌^◌, ◌<◌, List, [], ◌∷◌, length, slice_index}

-- each item is a byte: below 256
abbrev pub IsBytes : List ℕ → Type 0
IsBytes bytes = (i : ℕ) → slice_index bytes i < 256

-- the number that bytes encode, most significant byte first
abbrev pub number_high_first : List ℕ → ℕ
number_high_first [] = 0
number_high_first (b ∷ bytes) = b * 256 ^ length bytes + number_high_first bytes

-- the number that bytes encode, least significant byte first
abbrev pub number_low_first : List ℕ → ℕ
number_low_first [] = 0
number_low_first (b ∷ bytes) = b + 256 * number_low_first bytes

-- the k lowest base-256 digits of n, most significant first
abbrev pub digits_high_first : ℕ → ℕ → List ℕ
digits_high_first zero n = []
digits_high_first (suc k) n = n / 256 ^ k % 256 ∷ digits_high_first k n

-- the k lowest base-256 digits of n, least significant first
abbrev pub digits_low_first : ℕ → ℕ → List ℕ
digits_low_first zero n = []
digits_low_first (suc k) n = n % 256 ∷ digits_low_first k (n / 256)
