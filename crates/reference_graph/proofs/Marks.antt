-- Words that have the bits of numbers.
use Rattle.std.proofs.Common.{◌≡◌, ◌⊎◌, inl, inr, ⊎_elim, ℕ, zero, suc, Bool, true, false, List, [], ◌∷◌, ◌++◌, min, max, refl, sym, ap, ◌∙◌, subst, arith, ◌+◌, ◌-◌, ◌*◌, ◌%◌, ◌^◌, ◌<◌, ◌≤◌, nat_eq, nat_lt, nat_le, map}
use Rattle.std.specs.Prelude.{◌||◌, ◌&&◌, if◌then◌else◌}
use Rattle.std.specs.Int.{bit_at}
use Rattle.std.specs.Int.RustNames.{bit_and, bit_or}
use Rattle.std.specs.List.{list_any}
use Rattle.std.proofs.lemmas.Bool.Decides.{nat_tests}
use Rattle.std.proofs.lemmas.Nat.{and_le_l, and_assoc, or_comm, one_shl}
use Rattle.std.proofs.lemmas.Nat.Bits.{bit_at_and, bit_at_or, bit_at-pow_same, bit_at-zero, same_from_bits}
use Rattle.reference_graph.specs.Structures.{has_twice}
use Rattle.reference_graph.specs.Marking.{mark, one_if, times, IsMarked}

-- ---- bits

pub or_left : (w v m : ℕ) → bit_and w m ≡ m → bit_and (bit_or w v) m ≡ m
or_left w v m h =
    same_from_bits (bit_and (bit_or w v) m) m (λ i.
    let has : min (bit_at w i) (bit_at m i) ≡ bit_at m i = sym (bit_at_and w m i) ∙ ap (λ x. bit_at x i) h in
    let most : min (max (bit_at w i) (bit_at v i)) (bit_at m i) ≡ bit_at m i = omega (arith, has) in
    bit_at_and (bit_or w v) m i ∙ ap (λ x. min x (bit_at m i)) (bit_at_or w v i) ∙ most)

pub or_right : (w v m : ℕ) → bit_and v m ≡ m → bit_and (bit_or w v) m ≡ m
or_right w v m h = ap (λ x. bit_and x m) (or_comm w v) ∙ or_left v w m h

pub and_same : (m : ℕ) → bit_and m m ≡ m
and_same m = same_from_bits (bit_and m m) m (λ i. bit_at_and m m i ∙ omega arith)

nothing_shared : (m : ℕ) → bit_and 0 m ≡ 0
nothing_shared m = omega (arith, and_le_l 0 m)

-- what two words without a common bit both have is nothing
pub apart : (w v m : ℕ) → bit_and w v ≡ 0 → bit_and w m ≡ m → bit_and v m ≡ m → m ≡ 0
apart w v m none left right =
    sym left ∙ ap (bit_and w) (sym right) ∙ sym (and_assoc m w v) ∙ ap (λ x. bit_and x m) none ∙ nothing_shared m

not_zero : (k : ℕ) → 2 ^ k ≡ 0 → ⊥
not_zero k h =
    let one : bit_at 0 k ≡ 1 = ap (λ x. bit_at x k) (sym h) ∙ bit_at-pow_same k in
    let none : bit_at 0 k ≡ 0 = bit_at-zero k in
    omega (arith, one, none)

above_zero : (n : ℕ) → (n ≡ 0 → ⊥) → 0 < n
above_zero zero h = absurd (h refl)
above_zero (suc n) h = omega arith

bit_above : (k : ℕ) → k < 128 → 0 < 1 * 2 ^ k % 2 ^ 128
bit_above k lt = subst (λ x. 0 < x) (sym (one_shl k 128 lt)) (above_zero (2 ^ k) (not_zero k))

-- a number that a pass looks at has a bit
pub mark_above : (first n : ℕ) → first ≤ n → n < first + 128 → 0 < mark first n
mark_above first n low high =
    let here : (nat_le first n && nat_lt (n - first) 128) ≡ true = grind (arith, nat_tests) in
    let lt : n - first < 128 = omega arith in
    subst (λ (b : Bool). 0 < (if b then 1 * 2 ^ (n - first) % 2 ^ 128 else 0)) (sym here) (bit_above (n - first) lt)

-- ---- how often

one_most : (b : Bool) → one_if b ≤ 1
one_most true = omega arith
one_most false = omega arith

pub times_append : (n : ℕ) (xs ys : List ℕ) → times n (xs ++ ys) ≡ times n xs + times n ys
times_append n [] ys = omega arith
times_append n (x ∷ xs) ys = ap (λ m. one_if (nat_eq n x) + m) (times_append n xs ys) ∙ omega arith

same_by : (n t : ℕ) (b : Bool) → nat_eq n t ≡ b → 0 < one_if b + 0 → n ≡ t
same_by n t true is h = grind (arith, nat_tests, is)
same_by n t false is h = absurd (omega arith)

-- ---- words

pub marks_none : (first word : ℕ) → IsMarked first word []
marks_none first word = record { covered = λ n h. absurd (omega arith); once = λ n h. omega arith }

pub marks_one : (first t : ℕ) → IsMarked first (mark first t) (t ∷ [])
marks_one first t = record {
  covered = λ n h. subst (λ m. bit_and (mark first t) (mark first m) ≡ mark first m) (sym (same_by n t (nat_eq n t) refl h)) (and_same (mark first t));
  once = λ n h. omega (arith, one_most (nat_eq n t));
}

module _ (first w v : ℕ) (xs ys : List ℕ) (front : IsMarked first w xs) (back : IsMarked first v ys) (none : bit_and w v ≡ 0) where
  covers_front : (n : ℕ) (a b : ℕ) → a ≡ times n xs → b ≡ times n ys → 0 < a + b → bit_and (bit_or w v) (mark first n) ≡ mark first n
  covers_front n zero b is that h = or_right w v (mark first n) (back.covered n (omega (arith, that, h)))
  covers_front n (suc a) b is that h = or_left w v (mark first n) (front.covered n (omega (arith, is)))

  once_both : (n : ℕ) (a b : ℕ) → a ≡ times n xs → b ≡ times n ys → 0 < mark first n → a + b ≤ 1
  once_both n zero b is that h = omega (arith, that, back.once n h)
  once_both n (suc a) zero is that h = omega (arith, is, front.once n h)
  once_both n (suc a) (suc b) is that h =
      let gone : mark first n ≡ 0 = apart w v (mark first n) none (front.covered n (omega (arith, is))) (back.covered n (omega (arith, that))) in
      absurd (omega (arith, gone, h))

  pub marks_both : IsMarked first (bit_or w v) (xs ++ ys)
  marks_both = record {
    covered = λ n h. covers_front n (times n xs) (times n ys) refl refl (omega (arith, h, times_append n xs ys));
    once = λ n h. omega (arith, times_append n xs ys, once_both n (times n xs) (times n ys) refl refl h);
  }

-- a word of numbers has those of their front
pub marks_front : (first w : ℕ) (xs ys : List ℕ) → IsMarked first w (xs ++ ys) → IsMarked first w xs
marks_front first w xs ys m = record {
  covered = λ n h. m.covered n (omega (arith, h, times_append n xs ys));
  once = λ n h. omega (arith, times_append n xs ys, m.once n h);
}

-- ---- numbers that are there once each

module _ (f : ℕ → ℕ) where
  one_of : (t s : ℕ) (b : Bool) → nat_eq t s ≡ b → (m : ℕ) → one_if (nat_eq (f t) (f s)) + m ≡ 0 → b ≡ false
  one_of t s false is m h = refl
  one_of t s true is m h =
      let same : t ≡ s = grind (arith, nat_tests, is) in
      let yes : nat_eq (f t) (f s) ≡ true = subst (λ x. nat_eq (f t) (f x) ≡ true) same (grind (arith, nat_tests)) in
      let one : one_if (nat_eq (f t) (f s)) ≡ 1 = ap one_if yes in
      absurd (omega (arith, one, h))

  -- a tag whose number isn't there isn't
  absent : (t : ℕ) (ts : List ℕ) → times (f t) (map f ts) ≡ 0 → list_any (nat_eq t) ts ≡ false
  absent t [] h = refl
  absent t (s ∷ ts) h =
      let no : nat_eq t s ≡ false = one_of t s (nat_eq t s) refl (times (f t) (map f ts)) h in
      let more : list_any (nat_eq t) ts ≡ false = absent t ts (omega (arith, h)) in
      ap (λ b. b || list_any (nat_eq t) ts) no ∙ more

  -- where each number is there once at most, no tag is there twice
  pub none_twice : (ts : List ℕ) → ((n : ℕ) → times n (map f ts) ≤ 1) → has_twice ts ≡ false
  none_twice [] h = refl
  none_twice (t ∷ ts) h =
      let yes : nat_eq (f t) (f t) ≡ true = grind (arith, nat_tests) in
      let one : one_if (nat_eq (f t) (f t)) ≡ 1 = ap one_if yes in
      let none : times (f t) (map f ts) ≡ 0 = omega (arith, one, h (f t)) in
      let more : has_twice ts ≡ false = none_twice ts (λ n. omega (arith, h n)) in
      ap (λ b. b || has_twice ts) (absent t ts none) ∙ more
