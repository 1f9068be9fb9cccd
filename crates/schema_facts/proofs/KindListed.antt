-- Listed values of an accepted enum or set: numbers of its encoding, no two with one name, and no two with one number.
use Rattle.std.proofs.Common.{◌≡◌, ℕ, Bool, false, List, [], ◌∷◌, ◌++◌, map, refl, ap, sym, ◌∙◌, arith}
use Rattle.std.specs.Prelude.{◌≢◌, ◌||◌, AllPairs, ℤ}
use Rattle.std.specs.List.{AllByRecursion, list_any}
use Rattle.std.specs.Bool.{Decides}
use Rattle.std.specs.Ordering.{int_eq}
use Rattle.std.specs.Str.{bytes_eq}
use Rattle.std.proofs.lemmas.Bool.Decides.{Decides-int_eq}
use Rattle.std.proofs.lemmas.Slice.Eq.{bytes_eq-Decides}
use Rattle.std.proofs.lemmas.List.Elements.{All-from_recursion}
use Rattle.std.proofs.lemmas.List.Folds.{list_any-append}
use Rattle.std.proofs.lemmas.List.Kept.{AllPairs-cons}
use Rattle.sbe_types.specs.declared.kind.Named.{Named}
use Rattle.schema_rules.specs.Names.{is_among}
use Rattle.schema_rules.specs.TypeRules.{has_name_twice, has_number_twice, stands_twice}
use Rattle.schema_facts.proofs.KindPassed.{neither}

-- ---- no two are the same

module _ {X : Type 0} (eq : X → X → Bool) (same : (a b : X) → Decides (eq a b) (a ≡ b)) where
  -- one of the items stands before it
  abbrev pub is_twice : List X → List X → Bool
  is_twice earlier [] = false
  is_twice earlier (x ∷ xs) = list_any (eq x) earlier || is_twice (earlier ++ x ∷ []) xs

  -- a test that no item of the list passes does not let this one pass
  record Stands (y : X) (ys : List X) : Type 0 where
    found : (p : X → Bool) → list_any p ys ≡ false → p y ≡ false

  stays : (y x : X) (ys : List X) → Stands y ys → Stands y (ys ++ x ∷ [])
  stays y x ys h = record { found = λ p none. h.found p (neither (list_any p ys) (list_any p (x ∷ [])) (sym (list_any-append p ys (x ∷ [])) ∙ none)).0 }

  added : (x : X) (ys : List X) → Stands x (ys ++ x ∷ [])
  added x ys = record { found = λ p none. (neither (p x) false (neither (list_any p ys) (list_any p (x ∷ [])) (sym (list_any-append p ys (x ∷ [])) ∙ none)).1).0 }

  differs : (x y : X) → eq x y ≡ false → y ≢ x
  differs x y h is = let equal = (same x y).1 (sym is) in cc

  apart_from : (earlier xs : List X) (y : X) → Stands y earlier → is_twice earlier xs ≡ false → AllByRecursion (λ (x : X). y ≢ x) xs
  apart_from earlier [] y stands h = tt
  apart_from earlier (x ∷ xs) y stands h =
      let parts = neither (list_any (eq x) earlier) (is_twice (earlier ++ x ∷ []) xs) h in
      (differs x y (stands.found (eq x) parts.0), apart_from (earlier ++ x ∷ []) xs y (stays y x earlier stands) parts.1)

  pub all_apart : (earlier xs : List X) → is_twice earlier xs ≡ false → AllPairs (λ (a b : X). a ≢ b) xs
  all_apart earlier [] h = λ i j d below within. absurd (omega arith)
  all_apart earlier (x ∷ xs) h =
      let parts = neither (list_any (eq x) earlier) (is_twice (earlier ++ x ∷ []) xs) h in
      AllPairs-cons (λ a b. a ≢ b) x xs (All-from_recursion (λ y. x ≢ y) xs (apart_from (earlier ++ x ∷ []) xs x (added x earlier) parts.1))
      (all_apart (earlier ++ x ∷ []) xs parts.1)

names_twice : (earlier : List (List ℕ)) (values : List Named) → has_name_twice earlier values ≡ is_twice bytes_eq bytes_eq-Decides earlier (map (λ (v : Named). v.name) values)
names_twice earlier [] = refl
names_twice earlier (v ∷ vs) = ap (λ b. is_among earlier v.name || b) (names_twice (earlier ++ v.name ∷ []) vs)

numbers_twice : (earlier : List ℤ) (values : List Named) → has_number_twice earlier values ≡ is_twice int_eq Decides-int_eq earlier (map (λ (v : Named). v.number) values)
numbers_twice earlier [] = refl
numbers_twice earlier (v ∷ vs) = ap (λ b. list_any (int_eq v.number) earlier || b) (numbers_twice (earlier ++ v.number ∷ []) vs)

-- no name and no number of the values stands twice
pub record Differ (values : List Named) : Type 0 where
  pub names : AllPairs (λ a b. a ≢ b) (map (λ (v : Named). v.name) values)
  pub numbers : AllPairs (λ a b. a ≢ b) (map (λ (v : Named). v.number) values)

pub values_differ : (values : List Named) → stands_twice values ≡ false → Differ values
values_differ values h =
    let parts = neither (has_name_twice [] values) (has_number_twice [] values) h in
    record {
      names = all_apart bytes_eq bytes_eq-Decides [] (map (λ (v : Named). v.name) values) (sym (names_twice [] values) ∙ parts.0);
      numbers = all_apart int_eq Decides-int_eq [] (map (λ (v : Named). v.number) values) (sym (numbers_twice [] values) ∙ parts.1);
    }
