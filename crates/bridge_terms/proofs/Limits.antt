-- No place is over a limit exactly where the whole text isn't.
use Rattle.std.proofs.Common.{◌≡◌, ◌≤◌, inl, inr, ℕ, false, arith, List, [], ◌∷◌, ◌++◌, Some, None, refl, sym, ◌∙◌, subst, append_assoc}
use Rattle.std.specs.Prelude.{nat_lt}
use Rattle.std.proofs.lemmas.List.{append-nil}
use Rattle.std.proofs.lemmas.Bool.{ltb-true, ltb-false}
use Rattle.tagvalue_codec.specs.Fields.{Field}
use Rattle.bridge_rules.proofs.OptionLemmas.{some_none}
use Rattle.bridge_rules.proofs.BoolLemmas.{either, if_true, if_false}
use Rattle.bridge_terms.specs.Places.{Written, place_fields, first_over, Grows}

pub under_limit : (size : List Field → ℕ) (limit : ℕ) (before : List Field) (xs : List Written) → size before ≤ limit → first_over size limit before xs ≡ None →
    size (before ++ place_fields xs) ≤ limit
under_limit size limit before [] fits h = subst (λ fs. size fs ≤ limit) (sym (append-nil before)) fits
under_limit size limit before (x ∷ xs) fits h = elim (either (nat_lt limit (size (before ++ x.fields)))) [
  | inl t ↦ some_none (sym (if_true (nat_lt limit (size (before ++ x.fields))) (Some (record { way = x.way; size = size (before ++ x.fields) })) (first_over size limit (before ++ x.fields) xs) t) ∙ h)
  | inr f ↦
      subst (λ fs. size fs ≤ limit) (append_assoc before x.fields (place_fields xs))
      (under_limit size limit (before ++ x.fields) xs (ltb-false limit (size (before ++ x.fields)) f)
      (sym (if_false (nat_lt limit (size (before ++ x.fields))) (Some (record { way = x.way; size = size (before ++ x.fields) })) (first_over size limit (before ++ x.fields) xs) f) ∙ h))
]

pub limit_under : (size : List Field → ℕ) (limit : ℕ) → Grows size → (before : List Field) (xs : List Written) → size (before ++ place_fields xs) ≤ limit → first_over size limit before xs ≡ None
limit_under size limit grows before [] fits = refl
limit_under size limit grows before (x ∷ xs) fits =
    let all : size ((before ++ x.fields) ++ place_fields xs) ≤ limit = subst (λ fs. size fs ≤ limit) (sym (append_assoc before x.fields (place_fields xs))) fits in
    let own : size (before ++ x.fields) ≤ limit = omega (arith, all, grows (before ++ x.fields) (place_fields xs)) in
    let test : nat_lt limit (size (before ++ x.fields)) ≡ false = elim (either (nat_lt limit (size (before ++ x.fields)))) [
      | inl t ↦ absurd (omega (arith, ltb-true limit (size (before ++ x.fields)) t, own))
      | inr f ↦ f
    ] in
    if_false (nat_lt limit (size (before ++ x.fields))) (Some (record { way = x.way; size = size (before ++ x.fields) })) (first_over size limit (before ++ x.fields) xs) test
    ∙ limit_under size limit grows (before ++ x.fields) xs all
