-- The zeros among eight bytes, as the bits of a number.
use Rattle.std.proofs.Common.{◌≡◌, ℕ, suc, ◌+◌, ◌*◌, ◌%◌, ◌^◌, ◌<◌, ◌≤◌, ◌≢◌, Bool, true, false, cond, eqb, List, [], ◌∷◌, length, take, map, replicate, w8, refl, sym, ap, ◌∙◌, subst, arith}
use Rattle.std.proofs.lemmas.Simd.{tops_compared, mask_l-mod, mask_l-lt, zip2_splat, trailing_mask_l}
use native.Mathlib.Nat.{mod-eq_of_lt, pow-zero, two-pow-succ}
use lib.Pow.{pow_mono}
use Rattle.std.proofs.lemmas.List.{length-map, take_all}
use Rattle.std.proofs.lemmas.List.Sums.{prefix_len-le-length}
use Rattle.std.proofs.lemmas.Bool.Decides.{nat_tests}
use Rattle.std.specs.Simd.Lanes.{mask_l, zip2, top}
use Rattle.std.specs.Prelude.{◌==◌, not, if◌then◌else◌}
use Rattle.std.specs.Int.Count.{count_trailing_zeros}
use Rattle.std.specs.List.{prefix_len}
use Rattle.clean_walk.specs.inner.Zeros.{stays_zero, zeros_in}

pub zeros_compared : (b : List ℕ) → length b ≡ 8 → mask_l (map (top 7) (zip2 (λ x y. cond (x == y) 255 0) (take 8 b) (replicate 8 0))) % 2 ^ 64 ≡ zeros_in b
zeros_compared b long =
    ap (λ l. mask_l (map (top 7) (zip2 (λ x y. cond (x == y) 255 0) l (replicate 8 0))) % 2 ^ 64) (take_all 8 b (omega (arith, long)))
    ∙ ap (λ ms. mask_l ms % 2 ^ 64) (tops_compared w8 eqb b (replicate 8 0) ∙ zip2_splat eqb b 8 0 long)
    ∙ mask_l-mod (map (λ x. x == 0) b) 64 (omega (arith, length-map b (λ x. x == 0), long))

false_true : ◌≡◌ {A = Bool} false true → ⊥
false_true h = cc

abbrev Stays : Bool → List ℕ → Type 0
Stays ended bs = stays_zero ended bs ≡ true

twice : (n : ℕ) → 2 ^ suc n ≡ 2 * 2 ^ n
twice n = omega (arith, two-pow-succ n)

none_by : (t : Bool) (m : ℕ) (bs : List ℕ) → (m ≡ 0 → Stays false bs) → cond t 1 0 + 2 * m ≡ 0
    → (if t then stays_zero true bs else (if false then false else stays_zero false bs)) ≡ true
none_by true m bs go h = absurd (omega (arith, h))
none_by false m bs go h = go (omega (arith, h))

-- bytes none of which is 00
pub without_zeros : (bs : List ℕ) → zeros_in bs ≡ 0 → stays_zero false bs ≡ true
without_zeros [] h = refl
without_zeros (b ∷ bs) h = none_by (b == 0) (zeros_in bs) bs (without_zeros bs) h

all_by : (t : Bool) (m n : ℕ) (bs : List ℕ) → (m + 1 ≡ n → Stays true bs) → cond t 1 0 + 2 * m + 1 ≡ 2 * n
    → (if t then stays_zero true bs else (if true then false else stays_zero false bs)) ≡ true
all_by true m n bs go h = go (omega (arith, h))
all_by false m n bs go h = absurd (omega (arith, h))

-- bytes that are all 00
all_zeros : (bs : List ℕ) → zeros_in bs + 1 ≡ 2 ^ length bs → Stays true bs
all_zeros [] h = refl
all_zeros (b ∷ bs) h = all_by (b == 0) (zeros_in bs) (2 ^ length bs) bs (all_zeros bs) (h ∙ twice (length bs))

front_by : (t : Bool) (m p n : ℕ) (bs : List ℕ) → (m + 1 ≡ n → Stays true bs) → (m + p ≡ n → Stays false bs)
    → (k : ℕ) → (t ≡ true → k ≡ 1) → (t ≡ false → k ≡ 2 * p) → cond t 1 0 + 2 * m + k ≡ 2 * n
    → (if t then stays_zero true bs else (if false then false else stays_zero false bs)) ≡ true
front_by true m p n bs all go k one more h = all (omega (arith, h, one refl))
front_by false m p n bs all go k one more h = go (omega (arith, h, more refl))

one_when : (t : Bool) (r : ℕ) → t ≡ true → 2 ^ cond (not t) (1 + r) 0 ≡ 1
one_when true r is = pow-zero 2
one_when false r is = absurd (false_true is)

more_when : (t : Bool) (r : ℕ) → t ≡ false → 2 ^ cond (not t) (1 + r) 0 ≡ 2 * 2 ^ r
more_when true r is = absurd (false_true (sym is))
more_when false r is = let next : 1 + r ≡ suc r = omega arith in ap (λ k. 2 ^ k) next ∙ twice r

-- bytes whose zeros are all from the first one on
pub zeros_from : (bs : List ℕ) → zeros_in bs + 2 ^ prefix_len (λ b. not (b == 0)) bs ≡ 2 ^ length bs → stays_zero false bs ≡ true
zeros_from [] h = refl
zeros_from (b ∷ bs) h =
    let r = prefix_len (λ b. not (b == 0)) bs in
    front_by (b == 0) (zeros_in bs) (2 ^ r) (2 ^ length bs) bs (all_zeros bs) (zeros_from bs) (2 ^ cond (not (b == 0)) (1 + r) 0)
    (one_when (b == 0) r) (more_when (b == 0) r) (h ∙ twice (length bs))

-- the bytes before the first 00
abbrev front_of : List ℕ → ℕ
front_of bs = prefix_len (λ b. not (b == 0)) bs

few_zeros : (bs : List ℕ) → length bs ≡ 8 → zeros_in bs < 256
few_zeros bs long =
    let bits = map (λ b. b == 0) bs in
    let eight : length bits ≡ 8 = length-map bs (λ b. b == 0) ∙ long in
    subst (λ n. mask_l bits < 2 ^ n) eight (mask_l-lt bits)

front_bit : (bs : List ℕ) → length bs ≡ 8 → 2 ^ front_of bs ≤ 256
front_bit bs long =
    let near : front_of bs ≤ 8 = omega (arith, prefix_len-le-length (λ b. not (b == 0)) bs, long) in
    pow_mono near

-- the bit of the first 00 of eight bytes, by how many bits before it are 0
first_bit : (bs : List ℕ) (n : ℕ) → length bs ≡ 8 → n ≡ zeros_in bs → n ≢ 0 → 1 * 2 ^ count_trailing_zeros 64 n % 18446744073709551616 ≡ 2 ^ front_of bs
first_bit bs n long is some =
    let there : 0 < zeros_in bs = omega (arith, is, some) in
    let at : count_trailing_zeros 64 n ≡ front_of bs = ap (count_trailing_zeros 64) is ∙ trailing_mask_l (λ b. b == 0) 64 bs (omega (arith, long)) there in
    let bit : 1 * 2 ^ count_trailing_zeros 64 n ≡ 2 ^ front_of bs = ap (λ k. 1 * 2 ^ k) at ∙ omega arith in
    ap (λ k. k % 18446744073709551616) bit ∙ mod-eq_of_lt (omega (arith, front_bit bs long))

-- the sum of the zeros of eight bytes, as bits, and of the bit of the first
pub clean_zeros : (bs : List ℕ) (n : ℕ) → length bs ≡ 8 → n ≡ zeros_in bs → n ≢ 0
    → n + 1 * 2 ^ count_trailing_zeros 64 n % 18446744073709551616 == 256 ≡ true → stays_zero false bs ≡ true
clean_zeros bs n long is some sum =
    let whole : n + 1 * 2 ^ count_trailing_zeros 64 n % 18446744073709551616 ≡ 256 = grind (arith, nat_tests, sum) in
    let eight : 2 ^ length bs ≡ 256 = ap (λ k. 2 ^ k) long in
    zeros_from bs (omega (arith, whole, eight, is, first_bit bs n long is some))

pub sum_small : (bs : List ℕ) (n : ℕ) → length bs ≡ 8 → n ≡ zeros_in bs → n ≢ 0 → n + 1 * 2 ^ count_trailing_zeros 64 n % 18446744073709551616 < 18446744073709551616
sum_small bs n long is some = omega (arith, is, few_zeros bs long, first_bit bs n long is some, front_bit bs long)
