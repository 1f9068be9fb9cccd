-- A body with one byte altered, by its bytes.
use Rattle.std.proofs.Common.{◌≡◌, ◌%◌, ℕ, List, [], ◌∷◌, length, refl, ap, arith}
use Rattle.vectors.specs.Altered.{altered, raised_at}

pub altered_none : (body : List ℕ) (index : ℕ) → length body ≡ 0 → body ≡ altered body index
unfolding altered
altered_none [] index h = refl
altered_none (b ∷ bs) index h = absurd (omega (arith, h))

pub altered_at : (body : List ℕ) (index place : ℕ) → place ≡ index % length body → raised_at body place ≡ altered body index
unfolding altered
altered_at body index place is = ap (raised_at body) is
