-- Members of a list are no larger than the largest of them.
use Rattle.std.proofs.Common.{◌≡◌, ◌≤◌, ℕ, zero, suc, List, [], ◌∷◌, Some, arith, subst}
use Rattle.std.specs.Prelude.{slice_get}
use denote.Param.Weighed.{most}
use Rattle.version_project.proofs.Items.{some_is}

pub size_at : {X : Type 0} (size : X → ℕ) (xs : List X) (i : ℕ) (x : X) → slice_get xs i ≡ Some x → size x ≤ most size xs
size_at size [] i x at = cc
size_at size (y ∷ ys) zero x at = subst (λ z. size z ≤ most size (y ∷ ys)) (some_is at) (omega arith)
size_at size (y ∷ ys) (suc i) x at = let rest = size_at size ys i x at in omega (arith, rest)
