-- Lists no two of whose items are the same.
use Rattle.std.proofs.Common.{◌≡◌, ◌≢◌, ◌<◌, ℕ, suc, Bool, true, false, List, [], ◌∷◌, ◌++◌, length, refl, arith}
use Rattle.std.specs.Prelude.{AllPairs, ⊤}
use Rattle.std.specs.List.{slice_index_or}
use Rattle.std.specs.Str.{bytes_eq}
use Rattle.std.proofs.lemmas.Slice.Eq.{bytes_eq-Decides}

-- none of the items is x
abbrev pub IsOther : {X : Type 0} → X → List X → Type 0
IsOther x [] = ⊤
IsOther x (y ∷ ys) = (x ≢ y) × IsOther x ys

-- no two items are the same
abbrev pub DoDiffer : {X : Type 0} → List X → Type 0
DoDiffer [] = ⊤
DoDiffer (x ∷ xs) = IsOther x xs × DoDiffer xs

other_from : {X : Type 0} (x : X) (ys : List X) → ((j : ℕ) (d : X) → j < length ys → x ≢ slice_index_or ys j d) → IsOther x ys
other_from x [] h = tt
other_from x (y ∷ ys) h = (h 0 y (omega arith), other_from x ys (λ j d lt. h (suc j) d (omega (arith, lt))))

pub do_differ : {X : Type 0} (xs : List X) → AllPairs (λ a b. a ≢ b) xs → DoDiffer xs
do_differ [] h = tt
do_differ (x ∷ xs) h =
    (other_from x xs (λ j d lt. h 0 (suc j) d (omega arith) (omega (arith, lt))), do_differ xs (λ i j d a b. h (suc i) (suc j) d (omega (arith, a)) (omega (arith, b))))

-- an item of the second list is none of the first
pub other_there : {X : Type 0} (x : X) (front : List X) (y : X) (rest : List X) → IsOther x (front ++ y ∷ rest) → x ≢ y
other_there x [] y rest h = h.0
other_there x (z ∷ front) y rest h = other_there x front y rest h.1

by_test : (a b : List ℕ) → a ≢ b → (t : Bool) → bytes_eq a b ≡ t → t ≡ false
by_test a b h true e = absurd (h ((bytes_eq-Decides a b).0 e))
by_test a b h false e = refl

-- names that are not the same are told apart
pub not_same : (a b : List ℕ) → a ≢ b → bytes_eq a b ≡ false
not_same a b h = by_test a b h (bytes_eq a b) refl
