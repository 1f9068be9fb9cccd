-- Sums of bytes modulo 256, lane by lane.
use Rattle.std.proofs.Common.{◌≡◌, ℕ, ◌+◌, ◌%◌, List, [], ◌∷◌, length, take, drop, refl, ap, ◌∙◌, arith}
use Rattle.std.proofs.Math.Seq.{take-add}
use Rattle.std.proofs.lemmas.List.Sums.{sum_by-append, sum_by-cons, sum_by-take-drop}
use Rattle.std.specs.Simd.Lanes.{zip2}
use Rattle.std.specs.Prelude.{sum}

sum_cons : (x : ℕ) (xs : List ℕ) → sum (x ∷ xs) ≡ x + sum xs
sum_cons x xs = sum_by-cons (λ b. b) x xs

-- the lanes of two vectors that are added sum up to both sums
pub lanes_added : (f : ℕ → ℕ → ℕ) → ((a b : ℕ) → f a b ≡ (a + b) % 256) → (xs ys : List ℕ) → length xs ≡ length ys → sum (zip2 f xs ys) % 256 ≡ (sum xs + sum ys) % 256
lanes_added f e [] [] h = refl
lanes_added f e [] (y ∷ ys) h = absurd (omega arith)
lanes_added f e (x ∷ xs) [] h = absurd (omega arith)
lanes_added f e (x ∷ xs) (y ∷ ys) h =
    let even : length xs ≡ length ys = omega arith in
    omega (arith, e x y, lanes_added f e xs ys even, sum_cons (f x y) (zip2 f xs ys), sum_cons x xs, sum_cons y ys)

-- the sum of a longer front
pub sum_further : (n m : ℕ) (bytes : List ℕ) → sum (take (n + m) bytes) ≡ sum (take n bytes) + sum (take m (drop n bytes))
sum_further n m bytes = ap sum (take-add n m bytes) ∙ sum_by-append (λ b. b) (take n bytes) (take m (drop n bytes))

-- the sum of a front and of the rest
pub sum_whole : (n : ℕ) (bytes : List ℕ) → sum (take n bytes) + sum (drop n bytes) ≡ sum bytes
sum_whole n bytes = sum_by-take-drop (λ b. b) bytes n
