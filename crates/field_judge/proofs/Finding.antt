-- The place of a tag among others.
use Rattle.std.proofs.Common.{◌≡◌, inl, inr, ℕ, suc, Bool, true, false, List, [], ◌∷◌, slice_get, Some, None, refl, sym, ap, ◌∙◌, ◌+◌, arith}
use Rattle.std.specs.Prelude.{◌==◌, nat_eq}
use Rattle.std.proofs.lemmas.Bool.{eqb-true, eq-eqb}
use Rattle.id_tables.specs.Places.{place_by, place_of}
use Rattle.bridge_terms.specs.Plans.{is_in}
use Rattle.bridge_rules.proofs.BoolLemmas.{true_false, either, or_left, or_right, none_of, if_true, if_false}
use Rattle.bridge_rules.proofs.OptionLemmas.{some_is, none_some, some_none}

pub eqb_turned : (a b : ℕ) (t : Bool) → (a == b) ≡ t → (b == a) ≡ t
eqb_turned a b true h = eq-eqb b a (sym (eqb-true a b h))
eqb_turned a b false h = elim (either (b == a)) [
  | inl t ↦ true_false (eq-eqb a b (sym (eqb-true b a t))) h
  | inr f ↦ f
]

-- the place of a tag, from one on
pub record IsAt (tag : ℕ) (tags : List ℕ) (k : ℕ) (i : ℕ) : Type 0 where
  pub place : ℕ
  pub is : k ≡ i + place
  pub there : slice_get tags place ≡ Some tag

pub at_tag : (tag : ℕ) (tags : List ℕ) (i k : ℕ) → place_by (nat_eq tag) i tags ≡ Some k → IsAt tag tags k i
at_tag tag [] i k h = none_some h
at_tag tag (x ∷ xs) i k h = elim (either (nat_eq tag x)) [
  | inl t ↦ record {
    place = 0;
    is = sym (some_is (sym (if_true (nat_eq tag x) (Some i) (place_by (nat_eq tag) (i + 1) xs) t) ∙ h)) ∙ zeros i;
    there = ap Some (sym (eqb-true tag x t));
  }
  | inr f ↦
      let later = at_tag tag xs (i + 1) k (sym (if_false (nat_eq tag x) (Some i) (place_by (nat_eq tag) (i + 1) xs) f) ∙ h) in
      record { place = suc later.place; is = later.is ∙ next i later.place; there = later.there }
]
  where
    zeros : (i : ℕ) → i ≡ i + 0
    zeros i = omega arith

    next : (i j : ℕ) → i + 1 + j ≡ i + suc j
    next i j = omega arith

pub tag_at : (tag : ℕ) (tags : List ℕ) (k : ℕ) → place_of tag tags ≡ Some k → slice_get tags k ≡ Some tag
tag_at tag tags k h =
    let at = at_tag tag tags 0 k h in
    ap (slice_get tags) (at.is ∙ none at.place) ∙ at.there
  where
    none : (n : ℕ) → 0 + n ≡ n
    none n = omega arith

pub not_there : (tag : ℕ) (tags : List ℕ) (i : ℕ) → place_by (nat_eq tag) i tags ≡ None → is_in tag tags ≡ false
not_there tag [] i h = refl
not_there tag (x ∷ xs) i h = elim (either (nat_eq tag x)) [
  | inl t ↦ some_none (sym (if_true (nat_eq tag x) (Some i) (place_by (nat_eq tag) (i + 1) xs) t) ∙ h)
  | inr f ↦ none_of (x == tag) (is_in tag xs) (eqb_turned tag x false f)
      (not_there tag xs (i + 1) (sym (if_false (nat_eq tag x) (Some i) (place_by (nat_eq tag) (i + 1) xs) f) ∙ h))
]

pub is_there : (tag : ℕ) (tags : List ℕ) (i k : ℕ) → place_by (nat_eq tag) i tags ≡ Some k → is_in tag tags ≡ true
is_there tag [] i k h = none_some h
is_there tag (x ∷ xs) i k h = elim (either (nat_eq tag x)) [
  | inl t ↦ or_left (x == tag) (is_in tag xs) (eqb_turned tag x true t)
  | inr f ↦ or_right (x == tag) (is_in tag xs)
      (is_there tag xs (i + 1) k (sym (if_false (nat_eq tag x) (Some i) (place_by (nat_eq tag) (i + 1) xs) f) ∙ h))
]
