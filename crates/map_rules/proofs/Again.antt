-- Names that stand earlier.
use Rattle.std.proofs.Common.{◌≡◌, ℕ, zero, suc, ◌+◌, ◌<◌, Bool, List, [], ◌∷◌, Option, Some, None, take, length, refl, sym, ap, ◌∙◌, arith, add-one}
use Rattle.std.specs.Prelude.{◌||◌, slice_get}
use Rattle.std.specs.List.{list_any}
use Rattle.std.specs.Str.{bytes_eq}
use Rattle.map_rules.specs.Rules.{found_earlier, some_again}

pub again_next : (names : List (List ℕ)) (i : ℕ) (again new : Bool) → again ≡ some_again names i → new ≡ (found_earlier names i (slice_get names i) || again) → new ≡ some_again names (i + 1)
again_next names i again new so_far is = is ∙ ap (λ b. found_earlier names i (slice_get names i) || b) so_far ∙ sym (ap (some_again names) (add-one i))

none_there : {X : Type 0} (xs : List X) (i : ℕ) → slice_get xs i ≡ None → i < length xs → ⊥
none_there [] i h lt = omega arith
none_there (x ∷ xs) zero h lt = cc
none_there (x ∷ xs) (suc i) h lt = none_there xs i h (omega arith)

by_name : (names : List (List ℕ)) (i : ℕ) (r : Bool) → i < length names → ((name : List ℕ) → slice_get names i ≡ Some name → r ≡ list_any (bytes_eq name) (take i names)) →
    (o : Option (List ℕ)) → slice_get names i ≡ o → r ≡ found_earlier names i o
by_name names i r within f None is = absurd (none_there names i is within)
by_name names i r within f (Some name) is = f name is

pub found_by : (names : List (List ℕ)) (i : ℕ) (r : Bool) → i < length names → ((name : List ℕ) → slice_get names i ≡ Some name → r ≡ list_any (bytes_eq name) (take i names)) →
    r ≡ found_earlier names i (slice_get names i)
found_by names i r within f = by_name names i r within f (slice_get names i) refl
