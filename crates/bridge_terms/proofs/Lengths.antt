-- Header and length fields are passed over.
use Rattle.std.proofs.Common.{◌≡◌, inl, inr, ℕ, Bool, true, false, List, [], ◌∷◌, ◌++◌, map, length, decimal, Option, Some, None, refl, sym, ap, ◌∙◌}
use Rattle.std.specs.Prelude.{◌&&◌, ◌==◌, not}
use Rattle.std.proofs.lemmas.Bool.{eq-eqb}
use Rattle.bridge_terms.specs.Plans.{Each, is_in}
use Rattle.tagvalue_codec.specs.Fields.{Field}
use Rattle.bridge_terms.specs.Parts.{TagLists, is_application, application_fields}
use Rattle.bridge_terms.specs.MessageFields.{length_in, after_length, with_lengths}
use Rattle.bridge_rules.proofs.OptionLemmas.{some_is, none_some}
use Rattle.bridge_rules.proofs.BoolLemmas.{either, or_left, or_right, if_true, if_false}

length_among : (tag : ℕ) (pairs : List (ℕ × ℕ)) (n : ℕ) → length_in tag pairs ≡ Some n → is_in n (map (λ pair. pair.0) pairs) ≡ true
length_among tag [] n h = none_some h
length_among tag (p ∷ ps) n h = elim (either (p.1 == tag)) [
  | inl t ↦ or_left (p.0 == n) _ (eq-eqb p.0 n (some_is (sym (if_true (p.1 == tag) (Some p.0) (length_in tag ps) t) ∙ h)))
  | inr f ↦ or_right (p.0 == n) _ (length_among tag ps n (sym (if_false (p.1 == tag) (Some p.0) (length_in tag ps) f) ∙ h))
]

both_not : (a b : Bool) → b ≡ true → not a && not b ≡ false
both_not true b h = refl
both_not false b h = ap not h

led_kept : (lists : TagLists) (f : Field) (more : List Field) (o : Option ℕ) → ((n : ℕ) → o ≡ Some n → is_in n (map (λ pair. pair.0) lists.lengths) ≡ true) → is_application lists f ≡ true →
    application_fields lists (after_length o f ++ more) ≡ f ∷ application_fields lists more
led_kept lists f more None among own = if_true (is_application lists f) (f ∷ application_fields lists more) (application_fields lists more) own
led_kept lists f more (Some n) among own =
    if_false (is_application lists (record { tag = n; value = decimal (length f.value) })) (record { tag = n; value = decimal (length f.value) } ∷ application_fields lists (f ∷ more)) (application_fields lists (f ∷ more))
    (both_not (is_in n lists.header) _ (among n refl))
    ∙ if_true (is_application lists f) (f ∷ application_fields lists more) (application_fields lists more) own

-- what the application's fields are written with is passed over again
pub kept_again : (lists : TagLists) (fields : List Field) → Each (λ f. is_application lists f ≡ true) fields → application_fields lists (with_lengths lists fields) ≡ fields
kept_again lists [] all = refl
kept_again lists (f ∷ fs) all =
    led_kept lists f (with_lengths lists fs) (length_in f.tag lists.lengths) (length_among f.tag lists.lengths) all.0 ∙ ap (λ gs. f ∷ gs) (kept_again lists fs all.1)

-- and so are the fields of the head
pub head_passed : (lists : TagLists) (head more : List Field) → Each (λ f. is_in f.tag lists.header ≡ true) head → application_fields lists (head ++ more) ≡ application_fields lists more
head_passed lists [] more all = refl
head_passed lists (f ∷ fs) more all =
    if_false (is_application lists f) (f ∷ application_fields lists (fs ++ more)) (application_fields lists (fs ++ more)) (ap (λ a. not a && not (is_in f.tag (map (λ pair. pair.0) lists.lengths))) all.0)
    ∙ head_passed lists fs more all.1
