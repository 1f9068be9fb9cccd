-- Items of lists by their places.
use Rattle.std.proofs.Common.{◌≡◌, ◌⊎◌, inl, inr, ◌≤◌, ◌<◌, ◌+◌, ℕ, zero, suc, List, [], ◌∷◌, ◌++◌, length, take, drop, get_or, Some, refl, sym, ap, ◌∙◌, arith}
use Rattle.std.specs.Prelude.{slice_get, map}

pub item_there : {X : Type 0} (xs : List X) (n : ℕ) → n < length xs → (x : X) × (slice_get xs n ≡ Some x)
item_there [] n h = absurd (omega arith)
item_there (x ∷ xs) zero h = (x, refl)
item_there (x ∷ xs) (suc n) h = item_there xs n (omega arith)

pub long_map : {X Y : Type 0} (f : X → Y) (xs : List X) → length (map f xs) ≡ length xs
long_map f [] = refl
long_map f (x ∷ xs) = ap suc (long_map f xs)

-- ---- two lists, one after the other

pub in_two : {X : Type 0} (a b : List X) (k : ℕ) (x : X) → slice_get (a ++ b) k ≡ Some x → (slice_get a k ≡ Some x) ⊎ ((j : ℕ) × (k ≡ length a + j) × (slice_get b j ≡ Some x))
in_two [] b k x h = inr (k, omega arith, h)
in_two (y ∷ a) b zero x h = inl h
in_two (y ∷ a) b (suc k) x h = elim (in_two a b k x h) [ inl e ↦ inl e | inr e ↦ inr (e.0, omega (arith, e.1), e.2) ]

pub get_front : {X : Type 0} (a b : List X) (k : ℕ) → k < length a → slice_get (a ++ b) k ≡ slice_get a k
get_front [] b k h = absurd (omega arith)
get_front (y ∷ a) b zero h = refl
get_front (y ∷ a) b (suc k) h = get_front a b k (omega arith)

pub get_behind : {X : Type 0} (a b : List X) (k j : ℕ) → k ≡ length a + j → slice_get (a ++ b) k ≡ slice_get b j
get_behind [] b k j h = ap (slice_get b) (omega arith)
get_behind (y ∷ a) b zero j h = absurd (omega arith)
get_behind (y ∷ a) b (suc k) j h = get_behind a b k j (omega arith)

-- ---- a front of a list, and what is after it

pub take_one : {X : Type 0} (xs : List X) (i : ℕ) (x : X) → i < length xs → x ≡ get_or xs i x → take (i + 1) xs ≡ take i xs ++ x ∷ []
take_one [] i x h is = absurd (omega arith)
take_one (y ∷ xs) zero x h is = ap (λ z. z ∷ []) (sym is)
take_one (y ∷ xs) (suc i) x h is =
    let next : suc i + 1 ≡ suc (i + 1) = omega arith in
    ap (λ m. take m (y ∷ xs)) next ∙ ap (λ l. y ∷ l) (take_one xs i x (omega arith) is)

pub take_at : {X : Type 0} (xs : List X) (i : ℕ) (x : X) → slice_get xs i ≡ Some x → take (i + 1) xs ≡ take i xs ++ x ∷ []
take_at [] i x at = cc
take_at (y ∷ xs) zero x at = let here : y ≡ x = cc in ap (λ z. z ∷ []) here
take_at (y ∷ xs) (suc i) x at =
    let next : suc i + 1 ≡ suc (i + 1) = omega arith in
    ap (λ m. take m (y ∷ xs)) next ∙ ap (λ l. y ∷ l) (take_at xs i x at)

pub drop_is : {X : Type 0} (xs : List X) (i : ℕ) (x : X) → i < length xs → x ≡ get_or xs i x → drop i xs ≡ x ∷ drop (i + 1) xs
drop_is [] i x h is = absurd (omega arith)
drop_is (y ∷ xs) zero x h is = ap (λ z. z ∷ xs) (sym is)
drop_is (y ∷ xs) (suc i) x h is =
    let next : suc i + 1 ≡ suc (i + 1) = omega arith in
    rw next (drop_is xs i x (omega arith) is)

pub drop_at : {X : Type 0} (xs : List X) (i : ℕ) (x : X) → slice_get xs i ≡ Some x → drop i xs ≡ x ∷ drop (i + 1) xs
drop_at [] i x at = cc
drop_at (y ∷ xs) zero x at = let here : y ≡ x = cc in ap (λ z. z ∷ xs) here
drop_at (y ∷ xs) (suc i) x at =
    let next : suc i + 1 ≡ suc (i + 1) = omega arith in
    rw next (drop_at xs i x at)

pub all_taken : {X : Type 0} (k : ℕ) (xs : List X) → length xs ≤ k → take k xs ≡ xs
all_taken zero [] h = refl
all_taken zero (x ∷ xs) h = absurd (omega arith)
all_taken (suc k) [] h = refl
all_taken (suc k) (x ∷ xs) h = ap (λ l. x ∷ l) (all_taken k xs (omega arith))

pub all_dropped : {X : Type 0} (xs : List X) (i : ℕ) → length xs ≤ i → drop i xs ≡ []
all_dropped [] zero h = refl
all_dropped [] (suc i) h = refl
all_dropped (x ∷ xs) zero h = absurd (omega arith)
all_dropped (x ∷ xs) (suc i) h = all_dropped xs i (omega arith)

pub map_more : {X Y : Type 0} (f : X → Y) (xs : List X) (i : ℕ) (x : X) → i < length xs → x ≡ get_or xs i x → map f (take (i + 1) xs) ≡ map f (take i xs) ++ f x ∷ []
map_more f [] i x h is = absurd (omega arith)
map_more f (y ∷ xs) zero x h is = ap (λ z. f z ∷ []) (sym is)
map_more f (y ∷ xs) (suc i) x h is =
    let next : suc i + 1 ≡ suc (i + 1) = omega arith in
    ap (λ m. map f (take m (y ∷ xs))) next ∙ ap (λ l. f y ∷ l) (map_more f xs i x (omega arith) is)
