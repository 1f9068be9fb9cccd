-- The front of a list that passes a test.
use Rattle.std.proofs.Common.{◌≡◌, ℕ, Bool, true, false, List, [], ◌∷◌, ◌++◌, length, drop, refl, ap}
use Rattle.std.specs.List.{take_while, list_all}
use Rattle.std.proofs.lemmas.List.Sums.{take_while-cons}

splits_at : (p : ℕ → Bool) (x : ℕ) (xs : List ℕ) (t : Bool) → p x ≡ t → xs ≡ take_while p xs ++ drop (length (take_while p xs)) xs →
    x ∷ xs ≡ take_while p (x ∷ xs) ++ drop (length (take_while p (x ∷ xs))) (x ∷ xs)
splits_at p x xs true e h = rw (take_while-cons p x xs, e) (ap (λ r. x ∷ r) h)
splits_at p x xs false e h = rw (take_while-cons p x xs, e) refl

pub splits : (p : ℕ → Bool) (b : List ℕ) → b ≡ take_while p b ++ drop (length (take_while p b)) b
splits p [] = refl
splits p (x ∷ xs) = splits_at p x xs (p x) refl (splits p xs)

passes_at : (p : ℕ → Bool) (x : ℕ) (xs : List ℕ) (t : Bool) → p x ≡ t → list_all p (take_while p xs) ≡ true → list_all p (take_while p (x ∷ xs)) ≡ true
passes_at p x xs true e h = rw (take_while-cons p x xs, e) (rw e h)
passes_at p x xs false e h = rw (take_while-cons p x xs, e) refl

pub passes : (p : ℕ → Bool) (b : List ℕ) → list_all p (take_while p b) ≡ true
passes p [] = refl
passes p (x ∷ xs) = passes_at p x xs (p x) refl (passes p xs)

-- the first element after the front, if there is one, fails
abbrev pub Stops : (ℕ → Bool) → List ℕ → Type 0
Stops p [] = Unit {0}
Stops p (x ∷ xs) = p x ≡ false

stops_at : (p : ℕ → Bool) (x : ℕ) (xs : List ℕ) (t : Bool) → p x ≡ t → Stops p (drop (length (take_while p xs)) xs) → Stops p (drop (length (take_while p (x ∷ xs))) (x ∷ xs))
stops_at p x xs true e h = rw (take_while-cons p x xs, e) h
stops_at p x xs false e h = rw (take_while-cons p x xs, e) e

pub stops : (p : ℕ → Bool) (b : List ℕ) → Stops p (drop (length (take_while p b)) b)
stops p [] = tt
stops p (x ∷ xs) = stops_at p x xs (p x) refl (stops p xs)

stopped : (p : ℕ → Bool) (after : List ℕ) → Stops p after → take_while p after ≡ []
stopped p [] h = refl
stopped p (x ∷ xs) h = rw (take_while-cons p x xs, h) refl

first_passes : (p : ℕ → Bool) (x : ℕ) (xs : List ℕ) (t : Bool) → p x ≡ t → list_all p (x ∷ xs) ≡ true → (p x ≡ true) × (list_all p xs ≡ true)
first_passes p x xs true e h = (e, rw e at h)
first_passes p x xs false e h = absurd (untrue (rw e at h))
  where
    untrue : ◌≡◌ {A = Bool} false true → ⊥
    untrue k = cc

pub fronts : (p : ℕ → Bool) (text after : List ℕ) → list_all p text ≡ true → Stops p after → take_while p (text ++ after) ≡ text
fronts p [] after h k = stopped p after k
fronts p (x ∷ xs) after h k =
    let both = first_passes p x xs (p x) refl h in
    rw (take_while-cons p x (xs ++ after), both.0) (ap (λ r. x ∷ r) (fronts p xs after both.1 k))
