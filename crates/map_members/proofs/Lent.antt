-- Facts of members that are lent are facts of the members.
use Rattle.std.proofs.Common.{◌≡◌, ℕ, zero, suc, List, [], ◌∷◌, Some, map, length, refl, ap, Bor}
use Rattle.std.specs.Prelude.{slice_get}
use Rattle.std.proofs.lemmas.Option.{same_Some}
use Rattle.map_members.specs.Lent.{lent_members}

pub as_many : {A : Type 0} (xs : List (Bor A)) → length (lent_members xs) ≡ length xs
as_many [] = refl
as_many (x ∷ xs) = ap suc (as_many xs)

pub map_seen : {A B : Type 0} (f : A → B) (xs : List (Bor A)) → map (λ (m : Bor A). f m.now) xs ≡ map f (lent_members xs)
map_seen f [] = refl
map_seen f (x ∷ xs) = ap (λ ys. f x.now ∷ ys) (map_seen f xs)

pub seen_at : {A : Type 0} (xs : List (Bor A)) (i : ℕ) (x : Bor A) → slice_get xs i ≡ Some x → slice_get (lent_members xs) i ≡ Some x.now
seen_at [] i x h = cc
seen_at (y ∷ xs) zero x h = ap (λ (m : Bor _). Some m.now) (same_Some y x h)
seen_at (y ∷ xs) (suc i) x h = seen_at xs i x h
