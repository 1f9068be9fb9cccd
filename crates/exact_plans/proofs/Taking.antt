-- Rows that are read one by one.
use Rattle.std.proofs.Common.{◌≡◌, ◌<◌, ℕ, zero, suc, ◌+◌, List, [], ◌∷◌, length, take, get_or, sym, subst, arith}
use Rattle.std.specs.List.{AllByRecursion}

pub all_taken : {X : Type 0} (P : X → Type 0) (xs : List X) (i : ℕ) (x : X) → i < length xs → x ≡ get_or xs i x → AllByRecursion P (take i xs) → P x → AllByRecursion P (take (i + 1) xs)
all_taken P [] i x h is all own = absurd (omega arith)
all_taken P (y ∷ xs) zero x h is all own = (subst P is own, tt)
all_taken P (y ∷ xs) (suc i) x h is all own =
    let next : suc i + 1 ≡ suc (i + 1) = omega arith in
    subst (λ (n : ℕ). AllByRecursion P (take n (y ∷ xs))) (sym next) (all.0, all_taken P xs i x (omega arith) is all.1 own)
