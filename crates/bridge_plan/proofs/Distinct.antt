-- A structure in which no tag stands twice has other tags at each of its parts.
use Rattle.std.proofs.Common.{◌≡◌, inl, inr, ℕ, Bool, true, false, List, [], ◌∷◌, ◌++◌, refl, sym, ap, ◌∙◌, nat_eq}
use Rattle.std.specs.Prelude.{◌||◌, ◌==◌}
use Rattle.std.specs.List.{list_any}
use Rattle.std.proofs.lemmas.Bool.{eqb-true, eq-eqb}
use Rattle.reference_graph.specs.Expansion.{Structure, ended, plain, counted, structure_tags}
use Rattle.reference_graph.specs.Structures.{has_twice}
use Rattle.bridge_rules.proofs.BoolLemmas.{true_false, either, or_left, or_right, or_false, none_of}
use Rattle.bridge_terms.specs.Plans.{is_in}
use Rattle.bridge_plan.specs.StructureFacts.{IsDistinct}
use Rattle.bridge_plan.proofs.Planning.{in_left, in_right}

not_among : (t : ℕ) (xs : List ℕ) → list_any (nat_eq t) xs ≡ false → is_in t xs ≡ false
not_among t [] h = refl
not_among t (x ∷ xs) h =
    let two = or_false (nat_eq t x) (list_any (nat_eq t) xs) h in
    none_of (x == t) (is_in t xs)
    (elim (either (x == t)) [
      | inl k ↦ true_false (eq-eqb t x (sym (eqb-true x t k))) two.0
      | inr f ↦ f
    ]) (not_among t xs two.1)

any_left : (t : ℕ) (xs ys : List ℕ) → list_any (nat_eq t) (xs ++ ys) ≡ false → list_any (nat_eq t) xs ≡ false
any_left t [] ys h = refl
any_left t (x ∷ xs) ys h =
    let two = or_false (nat_eq t x) (list_any (nat_eq t) (xs ++ ys)) h in
    none_of (nat_eq t x) (list_any (nat_eq t) xs) two.0 (any_left t xs ys two.1)

not_left : (t : ℕ) (xs ys : List ℕ) → is_in t (xs ++ ys) ≡ false → is_in t xs ≡ false
not_left t xs ys h = elim (either (is_in t xs)) [
  | inl k ↦ true_false (in_left t xs ys k) h
  | inr f ↦ f
]

not_right : (t : ℕ) (xs ys : List ℕ) → is_in t (xs ++ ys) ≡ false → is_in t ys ≡ false
not_right t xs ys h = elim (either (is_in t ys)) [
  | inl k ↦ true_false (in_right t xs ys k) h
  | inr f ↦ f
]

-- no tag is twice in two lists, nor one in both
record AreDistinct (xs ys : List ℕ) : Type 0 where
  first : has_twice xs ≡ false
  second : has_twice ys ≡ false
  apart : (t : ℕ) → is_in t ys ≡ true → is_in t xs ≡ false

both_distinct : (xs ys : List ℕ) → has_twice (xs ++ ys) ≡ false → AreDistinct xs ys
both_distinct [] ys h = record { first = refl; second = h; apart = λ t k. refl }
both_distinct (x ∷ xs) ys h =
    let two = or_false (list_any (nat_eq x) (xs ++ ys)) (has_twice (xs ++ ys)) h in
    let more = both_distinct xs ys two.1 in
    let alone : is_in x ys ≡ false = not_right x xs ys (not_among x (xs ++ ys) two.0) in
    record {
      first = none_of (list_any (nat_eq x) xs) (has_twice xs) (any_left x xs ys two.0) more.first;
      second = more.second;
      apart = λ t k. none_of (x == t) (is_in t xs)
          (elim (either (x == t)) [
            | inl same ↦ true_false (ap (λ n. is_in n ys) (eqb-true x t same) ∙ k) alone
            | inr f ↦ f
          ]) (more.apart t k);
    }

pub distinct_of : (s : Structure) → has_twice (structure_tags s) ≡ false → IsDistinct s
distinct_of ended h = tt
distinct_of (plain tag rest) h =
    let two = or_false (list_any (nat_eq tag) (structure_tags rest)) (has_twice (structure_tags rest)) h in
    (not_among tag (structure_tags rest) two.0, distinct_of rest two.1)
distinct_of (counted tag inner rest) h =
    let all = structure_tags inner ++ structure_tags rest in
    let two = or_false (list_any (nat_eq tag) all) (has_twice all) h in
    let none = not_among tag all two.0 in
    let parts = both_distinct (structure_tags inner) (structure_tags rest) two.1 in (
      not_left tag (structure_tags inner) (structure_tags rest) none,
      not_right tag (structure_tags inner) (structure_tags rest) none,
      parts.apart,
      distinct_of inner parts.first,
      distinct_of rest parts.second,
    )
