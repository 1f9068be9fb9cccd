-- What is found of parts in the order of the text is what is wrong at the first place.
use Rattle.std.proofs.Common.{◌≡◌, ◌⊎◌, inl, inr, ℕ, Bool, true, false, cond, List, [], ◌∷◌, ◌++◌, map, Option, Some, None, refl, sym, ap, ◌∙◌}
use Rattle.std.specs.Prelude.{◌&&◌, ◌||◌, ◌==◌, not}
use Rattle.std.proofs.lemmas.Bool.{eqb-true, eq-eqb}
use Rattle.bridge_terms.specs.Plans.{Each, is_in}
use Rattle.bridge_terms.specs.Parts.{Part, are_distinct}
use Rattle.bridge_terms.specs.WayBack.{Refusal, repeated, or_else, wrong_in_order, IsFirstWrong}
use Rattle.bridge_rules.proofs.OptionLemmas.{none_some, some_none, and_first, and_second}
use Rattle.bridge_rules.proofs.BoolLemmas.{true_false, either, or_false, none_of, not_true, if_false}

tags_of : List Part → List ℕ
tags_of parts = map (λ x. x.tag) parts

-- the same after parts whose tags were seen
record First (wrong : Part → Option Refusal) (seen : List ℕ) (parts : List Part) (refusal : Refusal) : Type 0 where
  before : List Part
  part : Part
  after : List Part
  split : parts ≡ before ++ part ∷ after
  fine : Each (λ x. wrong x ≡ None) before
  fresh : Each (λ x. is_in x.tag seen ≡ false) before
  distinct : are_distinct before ≡ true
  here : cond (is_in part.tag seen || is_in part.tag (map (λ x. x.tag) before)) (Some (repeated part.tag)) (wrong part) ≡ Some refusal

either_none : (o : Option Refusal) → (o ≡ None) ⊎ ((r : Refusal) × (o ≡ Some r))
either_none None = inl refl
either_none (Some r) = inr (r, refl)

or_false_is : (a : Bool) → a || false ≡ a
or_false_is true = refl
or_false_is false = refl

turned_over : (a b c : Bool) → (a || b) || c ≡ b || (a || c)
turned_over true true c = refl
turned_over true false c = refl
turned_over false true c = refl
turned_over false false c = refl

apart_from : (n : ℕ) (seen : List ℕ) (xs : List Part) → Each (λ x. is_in x.tag (n ∷ seen) ≡ false) xs → is_in n (map (λ x. x.tag) xs) ≡ false
apart_from n seen [] all = refl
apart_from n seen (x ∷ xs) all =
    none_of (x.tag == n) _ (elim (either (x.tag == n)) [
      | inl t ↦ true_false (eq-eqb n x.tag (sym (eqb-true x.tag n t))) (or_false (n == x.tag) (is_in x.tag seen) all.0).0
      | inr f ↦ f
    ]) (apart_from n seen xs all.1)

unseen : (n : ℕ) (seen : List ℕ) (xs : List Part) → Each (λ x. is_in x.tag (n ∷ seen) ≡ false) xs → Each (λ x. is_in x.tag seen ≡ false) xs
unseen n seen [] all = tt
unseen n seen (x ∷ xs) all = ((or_false (n == x.tag) (is_in x.tag seen) all.0).1, unseen n seen xs all.1)

both_so : (a b : Bool) → a ≡ false → b ≡ true → not a && b ≡ true
both_so a b p q = ap (λ a. not a && b) p ∙ q

first_told : (wrong : Part → Option Refusal) (seen : List ℕ) (parts : List Part) (r : Refusal) → wrong_in_order wrong seen parts ≡ Some r → First wrong seen parts r
first_told wrong seen [] r h = none_some h
first_told wrong seen (x ∷ xs) r h =
    let one = cond (is_in x.tag seen) (Some (repeated x.tag)) (wrong x) in
    elim (either_none one) [
      | inr is ↦ record {
        before = [];
        part = x;
        after = xs;
        split = refl;
        fine = tt;
        fresh = tt;
        distinct = refl;
        here = ap (λ b. cond b (Some (repeated x.tag)) (wrong x)) (or_false_is (is_in x.tag seen)) ∙ is.1 ∙ sym (ap (λ o. or_else o (wrong_in_order wrong (x.tag ∷ seen) xs)) is.1) ∙ h;
      }
      | inl none ↦
          let more = first_told wrong (x.tag ∷ seen) xs r (sym (ap (λ o. or_else o (wrong_in_order wrong (x.tag ∷ seen) xs)) none) ∙ h) in
          let test = unrefused (is_in x.tag seen) none in
          record {
            before = x ∷ more.before;
            part = more.part;
            after = more.after;
            split = ap (λ ys. x ∷ ys) more.split;
            fine = (test.1, more.fine);
            fresh = (test.0, unseen x.tag seen more.before more.fresh);
            distinct = both_so _ _ (apart_from x.tag seen more.before more.fresh) more.distinct;
            here = ap (λ b. cond b (Some (repeated more.part.tag)) (wrong more.part)) (sym (turned_over (x.tag == more.part.tag) (is_in more.part.tag seen) _)) ∙ more.here;
          }
    ]
  where
    unrefused : (t : Bool) → cond t (Some (repeated x.tag)) (wrong x) ≡ None → (t ≡ false) × (wrong x ≡ None)
    unrefused true k = some_none k
    unrefused false k = (refl, k)

-- what was told is what is wrong at the first place
pub first_wrong : (wrong : Part → Option Refusal) (parts : List Part) (r : Refusal) → wrong_in_order wrong [] parts ≡ Some r → IsFirstWrong wrong parts r
first_wrong wrong parts r h =
    let f = first_told wrong [] parts r h in
    record { before = f.before; part = f.part; after = f.after; split = f.split; fine = f.fine; distinct = f.distinct; here = f.here }

first_only : (wrong : Part → Option Refusal) (seen : List ℕ) (before : List Part) (part : Part) (after : List Part) (r : Refusal) →
    Each (λ x. wrong x ≡ None) before → Each (λ x. is_in x.tag seen ≡ false) before → are_distinct before ≡ true →
    cond (is_in part.tag seen || is_in part.tag (map (λ x. x.tag) before)) (Some (repeated part.tag)) (wrong part) ≡ Some r → wrong_in_order wrong seen (before ++ part ∷ after) ≡ Some r
first_only wrong seen [] part after r fine fresh distinct here =
    ap (λ o. or_else o (wrong_in_order wrong (part.tag ∷ seen) after)) (ap (λ b. cond b (Some (repeated part.tag)) (wrong part)) (sym (or_false_is (is_in part.tag seen))) ∙ here)
first_only wrong seen (x ∷ xs) part after r fine fresh distinct here =
    ap (λ o. or_else o (wrong_in_order wrong (x.tag ∷ seen) (xs ++ part ∷ after))) (if_false (is_in x.tag seen) (Some (repeated x.tag)) (wrong x) fresh.0 ∙ fine.0)
    ∙ first_only wrong (x.tag ∷ seen) xs part after r fine.1 (seen_too x.tag xs fresh.1 (not_true _ (and_first _ _ distinct))) (and_second _ _ distinct)
    (ap (λ b. cond b (Some (repeated part.tag)) (wrong part)) (turned_over (x.tag == part.tag) (is_in part.tag seen) _) ∙ here)
  where
    seen_too : (n : ℕ) (ys : List Part) → Each (λ y. is_in y.tag seen ≡ false) ys → is_in n (map (λ y. y.tag) ys) ≡ false → Each (λ y. is_in y.tag (n ∷ seen) ≡ false) ys
    seen_too n [] all new = tt
    seen_too n (y ∷ ys) all new =
        let is = or_false (y.tag == n) _ new in (
          none_of (n == y.tag) _ (elim (either (n == y.tag)) [
            | inl t ↦ true_false (eq-eqb y.tag n (sym (eqb-true n y.tag t))) is.0
            | inr f ↦ f
          ]) all.0,
          seen_too n ys all.1 is.1,
        )

none_seen : (xs : List Part) → Each (λ x. is_in x.tag [] ≡ false) xs
none_seen [] = tt
none_seen (x ∷ xs) = (refl, none_seen xs)

-- and the other way round
pub wrong_first : (wrong : Part → Option Refusal) (parts : List Part) (r : Refusal) → IsFirstWrong wrong parts r → wrong_in_order wrong [] parts ≡ Some r
wrong_first wrong parts r f = ap (wrong_in_order wrong []) f.split ∙ first_only wrong [] f.before f.part f.after r f.fine (none_seen f.before) f.distinct f.here
