-- One item of a list, and those after it.
use Rattle.std.proofs.Common.{◌≡◌, ◌<◌, ◌+◌, ℕ, zero, suc, List, [], ◌∷◌, length, drop, get_or, Option, Some, sym, ap, ◌∙◌, subst, add-one, drop-cons}
use Rattle.std.specs.Prelude.{slice_get}

pub some_is : {A : Type 0} {x y : A} → ◌≡◌ {A = Option A} (Some x) (Some y) → x ≡ y
some_is k = cc

pub drop_at : {X : Type 0} (xs : List X) (i : ℕ) (x : X) → slice_get xs i ≡ Some x → drop i xs ≡ x ∷ drop (i + 1) xs
drop_at [] i x h = cc
drop_at (y ∷ xs) zero x h = ap (λ x. x ∷ xs) (some_is h)
drop_at (y ∷ xs) (suc i) x h = rw add-one (rw add-one at (drop_at xs i x h))

-- where the item is read of an equal list
pub item_at : {X : Type 0} (xs zs : List X) (i : ℕ) (x : X) → zs ≡ xs → i < length zs → x ≡ get_or zs i x → drop i xs ≡ x ∷ drop (i + 1) xs
item_at xs zs i x same h at =
    let within : i < length xs = subst (λ zs. i < length zs) same h in
    let is : x ≡ get_or xs i x = subst (λ zs. x ≡ get_or zs i x) same at in
    rw add-one (drop-cons xs i x within ∙ ap (λ z. z ∷ drop (suc i) xs) (sym is))
