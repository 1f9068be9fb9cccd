-- Drawings one after another, as a loop gathers them.
use Rattle.std.proofs.Common.{◌≡◌, ◌<◌, ◌≤◌, ◌+◌, ◌-◌, ℕ, suc, List, [], ◌∷◌, ◌++◌, length, drop, get_or, sym, ap, ◌∙◌, subst, arith, append_assoc, append-nil, add-one, drop-cons}
use Rattle.std.proofs.lemmas.List.{drop_all}
use Rattle.rand_pcg.specs.Lcg.{Lcg}
use Rattle.vectors.specs.Drawing.{Drawing, ◌>>=◌, always, each, times}

-- what was gathered so far, before what is drawn of the rest
abbrev pub gathered : {A : Type 0} → List A → List A × Lcg → List A × Lcg
gathered out rest = (out ++ rest.0, rest.1)

-- a value that is made of what was drawn
pub made : {A B : Type 0} (draw : Drawing A) (f : A → B) (words next : Lcg) (x : A) → draw words ≡ (x, next) → (draw >>= (λ a. always (f a))) words ≡ (f x, next)
made {A} {B} draw f words next x h = ap (λ (z : A × Lcg). (f z.0, z.1)) h

pub item_at : {A : Type 0} (xs : List A) (i : ℕ) (x : A) → i < length xs → x ≡ get_or xs i x → drop i xs ≡ x ∷ drop (i + 1) xs
item_at xs i x within at = rw add-one (drop-cons xs i x within ∙ ap (λ z. z ∷ drop (suc i) xs) (sym at))

module _ {A B : Type 0} (draw : A → Drawing B) where
  each_one : (x : A) (xs : List A) (out : List B) (words next : Lcg) (y : B) → draw x words ≡ (y, next) →
      gathered out (each draw (x ∷ xs) words) ≡ gathered (out ++ (y ∷ [])) (each draw xs next)
  unfolding each
  each_one x xs out words next y h =
      ap (λ (z : B × Lcg). (out ++ (z.0 ∷ (each draw xs z.1).0), (each draw xs z.1).1)) h
      ∙ ap (λ (l : List B). (l, (each draw xs next).1)) (sym (append_assoc out (y ∷ []) (each draw xs next).0))

  -- the next item of a loop
  pub each_go : (xs zs : List A) (i : ℕ) (x : A) (out : List B) (words next : Lcg) (y : B) (whole : List B × Lcg) → zs ≡ xs → i < length zs → x ≡ get_or zs i x → draw x words ≡ (y, next) →
      gathered out (each draw (drop i xs) words) ≡ whole → gathered (out ++ (y ∷ [])) (each draw (drop (i + 1) xs) next) ≡ whole
  each_go xs zs i x out words next y whole same within at h so_far =
      let is = item_at xs i x (subst (λ zs. i < length zs) same within) (subst (λ zs. x ≡ get_or zs i x) same at) in
      sym (ap (λ l. gathered out (each draw l words)) is ∙ each_one x (drop (i + 1) xs) out words next y h) ∙ so_far

  -- after the last item
  pub each_end : (xs zs : List A) (i : ℕ) (out : List B) (words : Lcg) (whole : List B × Lcg) → zs ≡ xs → length zs ≤ i → gathered out (each draw (drop i xs) words) ≡ whole → whole ≡ (out, words)
  unfolding each
  each_end xs zs i out words whole same after so_far =
      sym so_far ∙ ap (λ l. gathered out (each draw l words)) (drop_all i xs (subst (λ zs. length zs ≤ i) same after)) ∙ ap (λ (l : List B). (l, words)) (append-nil out)

module _ {A : Type 0} (draw : Drawing A) where
  times_one : (n : ℕ) (out : List A) (words next : Lcg) (y : A) → draw words ≡ (y, next) →
      gathered out (times (suc n) draw words) ≡ gathered (out ++ (y ∷ [])) (times n draw next)
  unfolding times
  times_one n out words next y h =
      ap (λ (z : A × Lcg). (out ++ (z.0 ∷ (times n draw z.1).0), (times n draw z.1).1)) h
      ∙ ap (λ (l : List A). (l, (times n draw next).1)) (sym (append_assoc out (y ∷ []) (times n draw next).0))

  -- the next round of a loop
  pub times_go : (n i : ℕ) (out : List A) (words next : Lcg) (y : A) (whole : List A × Lcg) → i < n → draw words ≡ (y, next) →
      gathered out (times (n - i) draw words) ≡ whole → gathered (out ++ (y ∷ [])) (times (n - (i + 1)) draw next) ≡ whole
  times_go n i out words next y whole within h so_far =
      let more : n - i ≡ suc (n - (i + 1)) = omega arith in
      sym (ap (λ k. gathered out (times k draw words)) more ∙ times_one (n - (i + 1)) out words next y h) ∙ so_far

  -- after the last round
  pub times_end : (n i : ℕ) (out : List A) (words : Lcg) (whole : List A × Lcg) → n ≤ i → gathered out (times (n - i) draw words) ≡ whole → whole ≡ (out, words)
  unfolding times
  times_end n i out words whole after so_far =
      let none : n - i ≡ 0 = omega arith in
      sym so_far ∙ ap (λ k. gathered out (times k draw words)) none ∙ ap (λ (l : List A). (l, words)) (append-nil out)
