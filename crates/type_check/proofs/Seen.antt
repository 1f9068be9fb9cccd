-- Keys that are vectors of bytes, seen as lists of bytes.
use Rattle.std.proofs.Common.{◌≡◌, ℕ, suc, ◌+◌, Bool, true, false, cond, List, [], ◌∷◌, ◌++◌, map, length, Option, Some, None, refl, sym, ap, ◌∙◌, position, nat_lt, not, add-one}
use Rattle.std.specs.Prelude.{◌||◌, if◌then◌else◌}
use Rattle.std.specs.List.{list_any, position_or_len}

module _ {X : Type 0} (seen : X → List ℕ) (test : List ℕ → Bool) where
  pub any_seen : (xs : List X) → list_any (λ x. test (seen x)) xs ≡ list_any test (map seen xs)
  any_seen [] = refl
  any_seen (x ∷ xs) = ap (λ b. test (seen x) || b) (any_seen xs)

  append_seen : (xs : List X) (x : X) → map seen (xs ++ x ∷ []) ≡ map seen xs ++ seen x ∷ []
  append_seen [] x = refl
  append_seen (y ∷ xs) x = ap (λ zs. seen y ∷ zs) (append_seen xs x)

  pub pushed_seen : (xs : List X) (x : X) (b : Bool) → b ≡ false → map seen (if b then xs else xs ++ x ∷ []) ≡ map seen xs ++ seen x ∷ []
  pushed_seen xs x true h = cc
  pushed_seen xs x false h = append_seen xs x
