-- Steps of the loops that gather, and answers that may want memory.
use Rattle.std.proofs.Common.{◌≡◌, ◌<◌, ℕ, zero, suc, ◌+◌, List, [], ◌∷◌, ◌++◌, length, take, drop, get_or, Option, Some, Result, Ok, Err, sym, ap, ◌∙◌, arith, drop-cons, add-one, append_assoc, append-nil}
use Rattle.std.specs.Prelude.{slice_get, map, IfOk}

some_is : {A : Type 0} {x y : A} → ◌≡◌ {A = Option A} (Some x) (Some y) → x ≡ y
some_is h = cc

-- what follows from an answer that isn't out of memory
pub if_ok : {A E : Type 0} {P Q : A → Type 0} (r : Result A E) → ((x : A) → P x → Q x) → IfOk r P → IfOk r Q
if_ok (Ok x) f h = f x h
if_ok (Err e) f h = h

-- the list from a place on, with the item there
pub there : {A : Type 0} (xs : List A) (i : ℕ) (x : A) → i < length xs → x ≡ get_or xs i x → drop i xs ≡ x ∷ drop (i + 1) xs
there xs i x h is = rw add-one (drop-cons xs i x h ∙ ap (λ y. y ∷ drop (suc i) xs) (sym is))

-- one item more of a list
pub take_next : {A : Type 0} (xs : List A) (i : ℕ) (x : A) → slice_get xs i ≡ Some x → take i xs ++ x ∷ [] ≡ take (i + 1) xs
take_next xs i x h = rw add-one (one xs i x h)
  where
    one : {A : Type 0} (xs : List A) (i : ℕ) (x : A) → slice_get xs i ≡ Some x → take i xs ++ x ∷ [] ≡ take (suc i) xs
    one [] i x h = absurd cc
    one (y ∷ ys) zero x h = ap (λ z. z ∷ []) (sym (some_is h))
    one (y ∷ ys) (suc i) x h = ap (λ zs. y ∷ zs) (one ys i x h)

-- one item of a view more
pub seen_next : {A B : Type 0} (f : A → B) (done whole : List B) (x : A) (left all : List A) (y : B) → all ≡ x ∷ left → y ≡ f x
    → done ++ map f all ≡ whole → (done ++ y ∷ []) ++ map f left ≡ whole
seen_next f done whole x left all y is same h = append_assoc done (y ∷ []) (map f left) ∙ ap (λ z. done ++ z ∷ map f left) same ∙ ap (λ xs. done ++ map f xs) (sym is) ∙ h

-- no item is left
pub seen_over : {A B : Type 0} (f : A → B) (done whole : List B) (all : List A) → length all ≡ 0 → done ++ map f all ≡ whole → done ≡ whole
seen_over f done whole [] none h = sym (append-nil done) ∙ h
seen_over f done whole (x ∷ xs) none h = absurd (omega (arith, none))
