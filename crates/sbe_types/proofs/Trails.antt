-- Items that are at the end of a list.
use Rattle.std.proofs.Common.{◌≡◌, ◌<◌, ◌≤◌, ◌+◌, ◌-◌, ℕ, zero, suc, List, [], ◌∷◌, length, drop, refl, ap, ◌∙◌, arith, length-drop}
use Rattle.std.specs.Prelude.{slice_set}

pub none_left : {X : Type 0} (xs : List X) (n : ℕ) → length xs ≡ n → drop n xs ≡ []
none_left [] zero h = refl
none_left [] (suc n) h = refl
none_left (x ∷ xs) zero h = absurd (omega (arith, h))
none_left (x ∷ xs) (suc n) h = none_left xs n (omega (arith, h))

set_here : {X : Type 0} (xs : List X) (n : ℕ) (x : X) → n < length xs → drop n (slice_set xs n x) ≡ x ∷ drop (n + 1) xs
set_here [] n x h = absurd (omega (arith, h))
set_here (y ∷ xs) zero x h = refl
set_here (y ∷ xs) (suc n) x h =
    let next : suc n + 1 ≡ suc (n + 1) = omega arith in
    rw next (set_here xs n x (omega (arith, h)))

-- an item before those from n on
pub one_in_front : {X : Type 0} (xs : List X) (n : ℕ) (x : X) → 1 ≤ n → n ≤ length xs → drop (n - 1) (slice_set xs (n - 1) x) ≡ x ∷ drop n xs
one_in_front xs n x low high =
    let back : n - 1 + 1 ≡ n = omega arith in
    set_here xs (n - 1) x (omega arith) ∙ ap (λ k. x ∷ drop k xs) back

-- fewer than all items leave room before them
pub room : {X : Type 0} (xs : List X) (n : ℕ) → length (drop n xs) < length xs → 1 ≤ n
room xs n h = omega (arith, length-drop n xs)
