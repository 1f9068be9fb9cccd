-- Decimal digits in a fixed number of places. Own profile.
use Rattle.std.specs.Prelude.{ℕ, zero, suc, ◌+◌, ◌-◌, ◌*◌, ◌/◌, ◌%◌, nat_le, ◌&&◌, if◌then◌else◌, Option, Some, None, List, [], ◌∷◌, ◌++◌}

-- the last decimal digits of a number, `places` of them, most significant first, in ASCII
unfoldable pub digits : ℕ → ℕ → List ℕ
digits zero n = []
digits (suc places) n = digits places (n / 10) ++ (48 + n % 10) ∷ []

-- the number that digits spell after those of another number; None if a byte isn't a digit
unfoldable pub number_after : ℕ → List ℕ → Option ℕ
number_after n [] = Some n
number_after n (x ∷ xs) = if nat_le 48 x && nat_le x 57 then number_after (n * 10 + (x - 48)) xs else None

-- the number that a text of digits spells
abbrev pub number_in : List ℕ → Option ℕ
number_in = number_after 0
