-- Bytes that stay 00 once one is. Own profile.
use Rattle.std.specs.Prelude.{ℕ, ◌==◌, map, Bool, true, false, if◌then◌else◌, List, [], ◌∷◌}
use Rattle.std.specs.Simd.Lanes.{mask_l}

-- bit k is set if byte k is 00
abbrev pub zeros_in : List ℕ → ℕ
zeros_in bytes = mask_l (map (λ b. b == 0) bytes)

-- no byte is other than 00 after the first 00; `ended` says whether there was one before these bytes
abbrev pub stays_zero : Bool → List ℕ → Bool
stays_zero ended [] = true
stays_zero ended (b ∷ bs) = if b == 0 then stays_zero true bs else (if ended then false else stays_zero false bs)
