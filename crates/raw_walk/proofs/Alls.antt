-- What holds of all cells of a table.
use Rattle.std.proofs.Common.{ℕ, zero, suc, ◌<◌, List, [], ◌∷◌, ◌++◌, length, set, get_or, arith}
use Rattle.std.specs.List.{AllByRecursion}

pub all_set : {X : Type 0} (P : X → Type 0) (xs : List X) (i : ℕ) (x : X) → AllByRecursion P xs → P x → AllByRecursion P (set xs i x)
all_set P [] i x all is = tt
all_set P (y ∷ ys) zero x all is = (is, all.1)
all_set P (y ∷ ys) (suc i) x all is = (all.0, all_set P ys i x all.1 is)

pub all_at : {X : Type 0} (P : X → Type 0) (xs : List X) (i : ℕ) (d : X) → i < length xs → AllByRecursion P xs → P (get_or xs i d)
all_at P [] i d within all = absurd (omega arith)
all_at P (y ∷ ys) zero d within all = all.0
all_at P (y ∷ ys) (suc i) d within all = all_at P ys i d (omega arith) all.1

pub all_to : {X : Type 0} (P Q : X → Type 0) (xs : List X) → ((x : X) → P x → Q x) → AllByRecursion P xs → AllByRecursion Q xs
all_to P Q [] f all = tt
all_to P Q (x ∷ xs) f all = (f x all.0, all_to P Q xs f all.1)

pub all_push : {X : Type 0} (P : X → Type 0) (xs : List X) (x : X) → AllByRecursion P xs → P x → AllByRecursion P (xs ++ (x ∷ []))
all_push P [] x all is = (is, tt)
all_push P (y ∷ ys) x all is = (all.0, all_push P ys x all.1 is)
