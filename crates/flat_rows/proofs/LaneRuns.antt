-- How many elements pass a test, by the first n of them and by the lanes of a load.
use Rattle.std.proofs.Common.{◌≡◌, ℕ, ◌+◌, ◌%◌, ◌^◌, ◌<◌, ◌≤◌, eqb, ltb, bit_or, cond, suc, ◌&&◌, ◌==◌, ◌∷◌, Bool, true, false, not, List, [], map, length, take, drop, get_or, pos, refl, sym, ap, ap₂, ◌∙◌, arith, inl, inr, length-take-le, length-drop, take-append-drop}
use Rattle.std.specs.Prelude.{nat_le, int_le}
use Rattle.std.proofs.lemmas.Bool.{cases_eq, eq-eqb, ne_eqb, cond-true}
use Rattle.std.proofs.lemmas.Bool.Decides.{nat_tests}
use Rattle.std.proofs.lemmas.Simd.{map-map, mask_l-mod, length-chunk, first_set_mask_l, zip2-map}
use Rattle.std.proofs.lemmas.List.{length-map, drop-drop}
use Rattle.std.proofs.lemmas.List.Folds.{prefix_len-append}
use Rattle.std.proofs.lemmas.List.Sums.{prefix_len-le-length}
use Rattle.std.specs.List.{prefix_len}
use lib.Lanes.{chunk, zip2, mask_l, top}
use Rattle.flat_rows.specs.declared.rows.Quick.{Quick}
use Rattle.flat_rows.specs.Quick.{is_between, is_text_within}
use Rattle.flat_rows.specs.Runs.{first_set, is_set, lies_between}

-- an operation on two vectors that were computed lane by lane from v
pub zip_of_maps : (h : ℕ → ℕ → ℕ) (f g : ℕ → ℕ) (v : List ℕ) {a b : List ℕ} → a ≡ map f v → b ≡ map g v → zip2 h a b ≡ map (λ x. h (f x) (g x)) v
zip_of_maps h f g v p q = ap₂ (zip2 h) p q ∙ zip2-map h f g v

-- tests that agree have the same run
same_run : (p q : ℕ → Bool) (xs : List ℕ) → ((x : ℕ) → p x ≡ q x) → prefix_len p xs ≡ prefix_len q xs
same_run p q [] all = refl
same_run p q (x ∷ xs) all = ap₂ (λ b n. cond b (1 + n) 0) (all x) (same_run p q xs all)

-- a lane stops just where q fails
lanes_run : (q : ℕ → Bool) (d : List ℕ) (i n r : ℕ) (z : List ℕ) → i + n ≤ length d → n ≤ 64 → r ≡ first_set (mask_l (map (top 7) z) % 2 ^ 64) n →
    (f : ℕ → ℕ) → z ≡ map f (chunk i n d) → ((x : ℕ) → not (top 7 (f x)) ≡ q x) → r ≡ prefix_len q (chunk i n d)
lanes_run q d i n r z room few found f lanes all =
    let v = chunk i n d in
    let long = length-chunk i n d room in
    let mask = ap (λ l. mask_l l % 2 ^ 64) (ap (map (top 7)) lanes ∙ map-map (top 7) f v) ∙ mask_l-mod (map (λ x. top 7 (f x)) v) 64 (omega (arith, length-map v (λ x. top 7 (f x)), long)) in
    found ∙ ap (λ m. first_set m n) mask ∙ first_set_mask_l (λ x. top 7 (f x)) v n long few ∙ same_run (λ x. not (top 7 (f x))) q v all

le_not : (m n : ℕ) → ltb n m ≡ true → nat_le m n ≡ false
le_not m n h = grind (arith, nat_tests)

le_is : (m n : ℕ) → ltb n m ≡ false → nat_le m n ≡ true
le_is m n h = grind (arith, nat_tests)

-- the lanes of bytes that are too low, or too high
abbrev pub outside : ℕ → ℕ → ℕ → ℕ
outside low high x = bit_or (cond (ltb x low) 255 0) (cond (ltb high x) 255 0)

outside_not : (low high x : ℕ) → not (top 7 (outside low high x)) ≡ lies_between low high x
outside_not low high x = by (ltb x low) (ltb high x) refl refl
  where
    by : (s t : Bool) → ltb x low ≡ s → ltb high x ≡ t → not (top 7 (bit_or (cond s 255 0) (cond t 255 0))) ≡ (nat_le low x && nat_le x high)
    by true true e f = sym (ap (λ b. b && nat_le x high) (le_not low x e))
    by true false e f = sym (ap (λ b. b && nat_le x high) (le_not low x e))
    by false true e f = sym (ap₂ (λ a b. a && b) (le_is low x e) (le_not x high f))
    by false false e f = sym (ap₂ (λ a b. a && b) (le_is low x e) (le_is x high f))

pub between_run : (low high : ℕ) (d : List ℕ) (i n r : ℕ) (z : List ℕ) → i + n ≤ length d → n ≤ 64 → r ≡ first_set (mask_l (map (top 7) z) % 2 ^ 64) n →
    z ≡ map (outside low high) (chunk i n d) → r ≡ prefix_len (lies_between low high) (chunk i n d)
between_run low high d i n r z room few found lanes = lanes_run (lies_between low high) d i n r z room few found (outside low high) lanes (outside_not low high)

zero_not : (t : Bool) → not (top 7 (cond t 255 0)) ≡ not t
zero_not true = refl
zero_not false = refl

-- the lanes of bytes that are 00
pub zero_run : (d : List ℕ) (i n r : ℕ) (z : List ℕ) → i + n ≤ length d → n ≤ 64 → r ≡ first_set (mask_l (map (top 7) z) % 2 ^ 64) n →
    z ≡ map (λ x. cond (eqb x 0) 255 0) (chunk i n d) → r ≡ prefix_len is_set (chunk i n d)
zero_run d i n r z room few found lanes = lanes_run is_set d i n r z room few found (λ x. cond (eqb x 0) 255 0) lanes (λ x. zero_not (eqb x 0))

run_of : (q : ℕ → Bool) (xs : List ℕ) (n : ℕ) → prefix_len q xs ≡ cond (eqb (prefix_len q (take n xs)) (length (take n xs))) (length (take n xs) + prefix_len q (drop n xs)) (prefix_len q (take n xs))
run_of q xs n = ap (prefix_len q) (sym (take-append-drop n xs)) ∙ prefix_len-append q (take n xs) (drop n xs)

-- all of the first n pass
run_goes_on : (q : ℕ → Bool) (xs : List ℕ) (n : ℕ) → n ≤ length xs → n ≤ prefix_len q (take n xs) → prefix_len q xs ≡ n + prefix_len q (drop n xs)
run_goes_on q xs n room all =
    let long = length-take-le n xs room in
    let whole : prefix_len q (take n xs) ≡ length (take n xs) = omega (arith, long, prefix_len-le-length q (take n xs), all) in
    run_of q xs n ∙ cond-true (eqb (prefix_len q (take n xs)) (length (take n xs))) _ _ (eq-eqb _ _ whole) ∙ ap (λ k. k + prefix_len q (drop n xs)) long

-- a run over all that stands after a place
pub run_behind : (q : ℕ → Bool) (xs : List ℕ) (at n : ℕ) → at + n ≤ length xs → n ≤ prefix_len q (take n (drop at xs)) → prefix_len q (drop at xs) ≡ n + prefix_len q (drop (at + n) xs)
run_behind q xs at n room all = run_goes_on q (drop at xs) n (omega (arith, length-drop at xs)) all ∙ ap (λ ys. n + prefix_len q ys) (drop-drop n at xs)

-- ---- texts

ends_next : (t : Bool) (b n : ℕ) (bs : List ℕ) (w : Bool) → (n < length bs → (get_or bs n 0 == 0) ≡ w) → cond t (1 + n) 0 < length (b ∷ bs) → (get_or (b ∷ bs) (cond t (1 + n) 0) 0 == 0) ≡ cond t w (b == 0)
ends_next true b n bs w rest h =
    let next : 1 + n ≡ suc n = omega arith in
    rw next (rest (omega (arith, h)))
ends_next false b n bs w rest h = refl

ends_by : (q : Quick) (bs : List ℕ) → prefix_len (λ b. is_between q (pos b)) bs < length bs → (get_or bs (prefix_len (λ b. is_between q (pos b)) bs) 0 == 0) ≡ is_text_within q bs
ends_by q [] h = absurd (omega (arith, h))
ends_by q (b ∷ bs) h = ends_next (is_between q (pos b)) b (prefix_len (λ b. is_between q (pos b)) bs) bs (is_text_within q bs) (ends_by q bs) h

whole_next : (t : Bool) (b n : ℕ) (bs : List ℕ) (w : Bool) → (length bs ≤ n → true ≡ w) → length (b ∷ bs) ≤ cond t (1 + n) 0 → true ≡ cond t w (b == 0)
whole_next true b n bs w rest h = rest (omega (arith, h))
whole_next false b n bs w rest h = absurd (omega (arith, h))

whole_by : (q : Quick) (bs : List ℕ) → length bs ≤ prefix_len (λ b. is_between q (pos b)) bs → true ≡ is_text_within q bs
whole_by q [] h = refl
whole_by q (b ∷ bs) h = whole_next (is_between q (pos b)) b (prefix_len (λ b. is_between q (pos b)) bs) bs (is_text_within q bs) (whole_by q bs) h

between_is : (q : Quick) (low high b : ℕ) → q.low ≡ pos low → q.high ≡ pos high → lies_between low high b ≡ is_between q (pos b)
between_is q low high b least most = sym (ap₂ (λ l h. int_le l (pos b) && int_le (pos b) h) least most)

-- the byte after the run ends the text
pub text_ends : (q : Quick) (low high : ℕ) (bs : List ℕ) (run : ℕ) → q.low ≡ pos low → q.high ≡ pos high → run ≡ prefix_len (lies_between low high) bs → run < length bs → (get_or bs run 0 == 0) ≡ is_text_within q bs
text_ends q low high bs run least most is h =
    let same : run ≡ prefix_len (λ b. is_between q (pos b)) bs = is ∙ same_run _ _ bs (λ b. between_is q low high b least most) in
    ap (λ k. get_or bs k 0 == 0) same ∙ ends_by q bs (omega (arith, h, same))

-- the run is the whole text
pub text_whole : (q : Quick) (low high : ℕ) (bs : List ℕ) (run : ℕ) → q.low ≡ pos low → q.high ≡ pos high → run ≡ prefix_len (lies_between low high) bs → length bs ≤ run → true ≡ is_text_within q bs
text_whole q low high bs run least most is h =
    let same : run ≡ prefix_len (λ b. is_between q (pos b)) bs = is ∙ same_run _ _ bs (λ b. between_is q low high b least most) in
    whole_by q bs (omega (arith, h, same))

-- ---- texts, by the first 00

never : ◌≡◌ {A = Bool} true false → ⊥
never h = cc

meet_next : (t z : Bool) (m n : ℕ) (w : Bool) → (t ≡ true → z ≡ false) → eqb m n ≡ w → eqb (cond t (1 + m) 0) (cond (not z) (1 + n) 0) ≡ cond t w z
meet_next true true m n w apart h = absurd (never (apart refl))
meet_next true false m n w apart h =
    elim (cases_eq m n) [
      | inl same ↦ eq-eqb (1 + m) (1 + n) (omega (arith, same)) ∙ sym (eq-eqb m n same) ∙ h
      | inr other ↦ ne_eqb (1 + m) (1 + n) (λ e. other (omega (arith, e))) ∙ sym (ne_eqb m n other) ∙ h
    ]
meet_next false true m n w apart h = eq-eqb 0 0 refl
meet_next false false m n w apart h = ne_eqb 0 (1 + n) (λ e. omega (arith, e))

-- 00 is out of a range that begins above it
no_zero : (low high b : ℕ) → 0 < low → lies_between low high b ≡ true → eqb b 0 ≡ false
no_zero low high b some h =
    elim (cases_eq b 0) [
      | inl same ↦
          let out : nat_le low b ≡ false = grind (arith, nat_tests, same, some) in
          absurd (never (sym h ∙ ap (λ t. t && nat_le b high) out))
      | inr other ↦ ne_eqb b 0 other
    ]

-- the first byte out of the range is the first 00, or there is neither
pub runs_meet : (q : Quick) (low high : ℕ) (bs : List ℕ) → q.low ≡ pos low → q.high ≡ pos high → 0 < low → (prefix_len (lies_between low high) bs == prefix_len is_set bs) ≡ is_text_within q bs
runs_meet q low high [] least most some = refl
runs_meet q low high (b ∷ bs) least most some =
    meet_next (lies_between low high b) (eqb b 0) _ _ (is_text_within q bs) (no_zero low high b some) (runs_meet q low high bs least most some)
    ∙ ap (λ t. cond t (is_text_within q bs) (b == 0)) (between_is q low high b least most)
