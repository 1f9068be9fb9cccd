-- The part that has a tag.
use Rattle.std.proofs.Common.{◌≡◌, inl, inr, ℕ, true, false, List, [], ◌∷◌, map, Some, sym, ap, ◌∙◌, subst}
use Rattle.std.specs.Prelude.{◌==◌}
use Rattle.std.proofs.lemmas.Bool.{eqb-true}
use Rattle.bridge_terms.specs.Plans.{Each, is_in}
use Rattle.bridge_terms.specs.Parts.{Part, part_at, are_known, are_distinct}
use Rattle.bridge_rules.proofs.OptionLemmas.{some_is, none_some, and_first, and_second}
use Rattle.bridge_rules.proofs.BoolLemmas.{true_false, either, or_left, or_right, not_true, same_self, if_true, if_false}

pub at_is : (tag : ℕ) (parts : List Part) (x : Part) → part_at tag parts ≡ Some x → x.tag ≡ tag
at_is tag [] x h = none_some h
at_is tag (y ∷ ys) x h = elim (either (y.tag == tag)) [
  | inl t ↦ ap (λ z. z.tag) (sym (some_is (sym (if_true (y.tag == tag) (Some y) (part_at tag ys) t) ∙ h))) ∙ eqb-true y.tag tag t
  | inr f ↦ at_is tag ys x (sym (if_false (y.tag == tag) (Some y) (part_at tag ys) f) ∙ h)
]

pub at_in : (tag : ℕ) (parts : List Part) (x : Part) → part_at tag parts ≡ Some x → is_in tag (map (λ y. y.tag) parts) ≡ true
at_in tag [] x h = none_some h
at_in tag (y ∷ ys) x h = elim (either (y.tag == tag)) [
  | inl t ↦ or_left (y.tag == tag) _ t
  | inr f ↦ or_right (y.tag == tag) _ (at_in tag ys x (sym (if_false (y.tag == tag) (Some y) (part_at tag ys) f) ∙ h))
]

pub at_each : (P : Part → Type 0) (tag : ℕ) (parts : List Part) (x : Part) → Each P parts → part_at tag parts ≡ Some x → P x
at_each P tag [] x all h = none_some h
at_each P tag (y ∷ ys) x all h = elim (either (y.tag == tag)) [
  | inl t ↦ subst P (some_is (sym (if_true (y.tag == tag) (Some y) (part_at tag ys) t) ∙ h)) all.0
  | inr f ↦ at_each P tag ys x all.1 (sym (if_false (y.tag == tag) (Some y) (part_at tag ys) f) ∙ h)
]

-- what holds of each part that is found holds of each part
pub each_at : (P : Part → Type 0) (tags : List ℕ) (parts : List Part) → are_known tags parts ≡ true → are_distinct parts ≡ true →
    ((tag : ℕ) (x : Part) → is_in tag tags ≡ true → part_at tag parts ≡ Some x → P x) → Each P parts
each_at P tags [] known distinct all = tt
each_at P tags (y ∷ ys) known distinct all =
    let alone : is_in y.tag (map (λ z. z.tag) ys) ≡ false = not_true _ (and_first _ _ distinct) in (
      all y.tag y (and_first _ _ known) (if_true (y.tag == y.tag) (Some y) (part_at y.tag ys) (same_self y.tag)),
      each_at P tags ys (and_second _ _ known) (and_second _ _ distinct)
          (λ tag x here found. all tag x here (elim (either (y.tag == tag)) [
            | inl t ↦ true_false (ap (λ n. is_in n (map (λ z. z.tag) ys)) (eqb-true y.tag tag t) ∙ at_in tag ys x found) alone
            | inr f ↦ if_false (y.tag == tag) (Some y) (part_at tag ys) f ∙ found
          ])),
    )
