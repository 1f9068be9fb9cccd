-- How many bytes stand for themselves, by the lanes of a load.
use Rattle.std.proofs.Common.{◌≡◌, ℕ, ◌+◌, ◌%◌, ◌^◌, ◌≤◌, eqb, cond, zero, suc, ◌&&◌, ◌∷◌, Bool, true, false, not, List, [], map, length, take, get_or, Fits, w8, refl, sym, ap, ap₂, ◌∙◌, arith, inl, inr}
use Rattle.std.proofs.lemmas.Bool.{agree_below, agree_below_at, cases_eq, eq-eqb, ne_eqb}
use Rattle.std.proofs.lemmas.Simd.{map-map, mask_l-mod, length-chunk, chunk-fits, first_set_mask_l}
use Rattle.std.proofs.lemmas.List.{length-map}
use Rattle.std.specs.List.{prefix_len, list_all}
use lib.Lanes.{chunk, mask_l, top, Each1}
use Rattle.flat_rows.specs.Runs.{first_set}
pub use Rattle.flat_rows.proofs.LaneRuns.{zip_of_maps, run_behind}

-- tests that agree on bytes have the same run of them
same_run : (p q : ℕ → Bool) (xs : List ℕ) → agree_below p q 256 ≡ true → Each1 (Fits w8) xs → prefix_len p xs ≡ prefix_len q xs
same_run p q [] all fits = refl
same_run p q (x ∷ xs) all fits = ap₂ (λ b n. cond b (1 + n) 0) (agree_below_at p q 256 x all fits.0.fits) (same_run p q xs all fits.1)

-- a lane stops just where q fails
pub lanes_run : (q : ℕ → Bool) (d : List ℕ) (i n r : ℕ) (z : List ℕ) → i + n ≤ length d → n ≤ 64 → ((k : ℕ) → Fits w8 (get_or d k 0))
    → r ≡ first_set (mask_l (map (top 7) z) % 2 ^ 64) n → (f : ℕ → ℕ) → z ≡ map f (chunk i n d)
    → agree_below (λ x. not (top 7 (f x))) q 256 ≡ true → r ≡ prefix_len q (chunk i n d)
lanes_run q d i n r z room few fits found f lanes all =
    let v = chunk i n d in
    let long = length-chunk i n d room in
    let mask = ap (λ l. mask_l l % 2 ^ 64) (ap (map (top 7)) lanes ∙ map-map (top 7) f v) ∙ mask_l-mod (map (λ x. top 7 (f x)) v) 64 (omega (arith, length-map v (λ x. top 7 (f x)), long)) in
    found ∙ ap (λ m. first_set m n) mask ∙ first_set_mask_l (λ x. top 7 (f x)) v n long few ∙ same_run (λ x. not (top 7 (f x))) q v all (chunk-fits w8 i n d fits)

-- ---- what a run says of the bytes

whole_next : (b : Bool) (m n : ℕ) → eqb (cond b (1 + m) 0) (suc n) ≡ b && eqb m n
whole_next true m n =
    elim (cases_eq m n) [
      | inl same ↦ eq-eqb (1 + m) (suc n) (omega (arith, same)) ∙ sym (eq-eqb m n same)
      | inr other ↦ ne_eqb (1 + m) (suc n) (λ e. other (omega (arith, e))) ∙ sym (ne_eqb m n other)
    ]
whole_next false m n = ne_eqb 0 (suc n) (λ e. omega (arith, e))

-- a run over the whole list
pub whole_run : (q : ℕ → Bool) (xs : List ℕ) → eqb (prefix_len q xs) (length xs) ≡ list_all q xs
whole_run q [] = refl
whole_run q (x ∷ xs) = whole_next (q x) (prefix_len q xs) (length xs) ∙ ap (λ b. q x && b) (whole_run q xs)

passes_next : (b : Bool) (q : ℕ → Bool) (x n : ℕ) (xs : List ℕ) → q x ≡ b → list_all q (take n xs) ≡ true → list_all q (take (cond b (1 + n) 0) (x ∷ xs)) ≡ true
passes_next true q x n xs is rest =
    let next : 1 + n ≡ suc n = omega arith in
    rw next (ap₂ (λ a b. a && b) is rest)
passes_next false q x n xs is rest = refl

-- the bytes of a run pass
pub run_passes : (q : ℕ → Bool) (xs : List ℕ) → list_all q (take (prefix_len q xs) xs) ≡ true
run_passes q [] = refl
run_passes q (x ∷ xs) = passes_next (q x) q x (prefix_len q xs) xs refl (run_passes q xs)

front_next : (b : Bool) (m n p : ℕ) → suc n ≤ cond b (1 + p) 0 → (n ≤ p → m ≡ n) → cond b (1 + m) 0 ≡ suc n
front_next true m n p most rest = omega (arith, rest (omega (arith, most)))
front_next false m n p most rest = absurd (omega (arith, most))

-- a front of a run is a run of its own
pub front_passes : (q : ℕ → Bool) (xs : List ℕ) (n : ℕ) → n ≤ prefix_len q xs → prefix_len q (take n xs) ≡ n
front_passes q xs zero most = refl
front_passes q [] (suc n) most = absurd (omega (arith, most))
front_passes q (x ∷ xs) (suc n) most = front_next (q x) (prefix_len q (take n xs)) n (prefix_len q xs) most (front_passes q xs n)
