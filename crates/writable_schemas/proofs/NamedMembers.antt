-- Members that are as many as some names, and have each of them, have no other.
use Rattle.std.proofs.Common.{◌≡◌, ◌≢◌, ℕ, Bool, true, false, List, [], ◌∷◌, ◌++◌, length, refl, sym, ap, ◌∙◌, subst, arith, length-append}
use Rattle.std.specs.Prelude.{◌||◌}
use Rattle.std.specs.List.{AllByRecursion, list_any}
use Rattle.std.proofs.lemmas.List.Folds.{list_any-append}
use Rattle.sbe_types.specs.declared.kind.Member.{Member}
use Rattle.schema_facts.proofs.LevelForms.{all_apart}
use Rattle.schema_facts.proofs.LevelWalk.{all_joined}
use Rattle.writable_schemas.proofs.WholeNumbers.{untrue}

-- no two of the names are the same
abbrev pub Apart : List (List ℕ) → Type 0
Apart [] = Unit {0}
Apart (n ∷ ns) = AllByRecursion (λ k. n ≢ k) ns × Apart ns

none_left : (ms : List Member) → length ms ≡ 0 → ms ≡ []
none_left [] h = refl
none_left (m ∷ ms) h = absurd (omega (arith, h))

or_last : (t u : Bool) → t ≡ false → (t || u) ≡ true → u ≡ true
or_last true u h k = absurd (untrue (sym h))
or_last false u h k = k

not_so : (t : Bool) → (t ≡ true → ⊥) → t ≡ false
not_so true h = absurd (h refl)
not_so false h = refl

module _ (f : List ℕ → Member → Bool) (named : (n : List ℕ) (m : Member) → f n m ≡ true → n ≡ m.name) (G : Member → Type 0) where
  -- a member that has the name, the ones before it and the ones after it
  abbrev Found : List ℕ → List Member → Type 0
  Found n ms = (xs : List Member) × (m : Member) × (ys : List Member) × (ms ≡ xs ++ (m ∷ ys)) × (f n m ≡ true)

  found : (n : List ℕ) (ms : List Member) → list_any (f n) ms ≡ true → Found n ms
  found n [] h = absurd (untrue h)
  found n (m ∷ ms) h = by (f n m) refl h (found n ms)
    where
      by : (t : Bool) → f n m ≡ t → (t || list_any (f n) ms) ≡ true → (list_any (f n) ms ≡ true → Found n ms) → Found n (m ∷ ms)
      by true e k more = ([], m, ms, refl, e)
      by false e k more = let later = more k in (m ∷ later.0, later.1, later.2, ap (λ l. m ∷ l) later.3, later.4)

  -- another name is had by the others
  others : (n k : List ℕ) (xs ys : List Member) (m : Member) → n ≢ k → f n m ≡ true → list_any (f k) (xs ++ (m ∷ ys)) ≡ true → list_any (f k) (xs ++ ys) ≡ true
  others n k xs ys m apart is h =
      let no : f k m ≡ false = not_so (f k m) (λ also. apart (named n m is ∙ sym (named k m also))) in
      list_any-append (f k) xs ys
      ∙ ap (λ t. list_any (f k) xs || (t || list_any (f k) ys)) (sym no)
      ∙ sym (list_any-append (f k) xs (m ∷ ys)) ∙ h

  each_other : (n : List ℕ) (ns : List (List ℕ)) (xs ys : List Member) (m : Member) → f n m ≡ true → AllByRecursion (λ k. n ≢ k) ns →
      AllByRecursion (λ k. list_any (f k) (xs ++ (m ∷ ys)) ≡ true) ns → AllByRecursion (λ k. list_any (f k) (xs ++ ys) ≡ true) ns
  each_other n [] xs ys m is apart h = tt
  each_other n (k ∷ ns) xs ys m is apart h = (others n k xs ys m apart.0 is h.0, each_other n ns xs ys m is apart.1 h.1)

  pub exactly : (ns : List (List ℕ)) (ms : List Member) → length ms ≡ length ns → Apart ns → AllByRecursion (λ n. list_any (f n) ms ≡ true) ns →
      AllByRecursion (λ n. (m : Member) → f n m ≡ true → G m) ns → AllByRecursion G ms
  exactly [] ms many apart has gives = subst (AllByRecursion G) (sym (none_left ms many)) tt
  exactly (n ∷ ns) ms many apart has gives =
      let at = found n ms has.0 in
      let xs = at.0 in
      let m = at.1 in
      let ys = at.2 in
      let fewer : length (xs ++ ys) ≡ length ns = omega (arith, many, ap length at.3, length-append xs (m ∷ ys), length-append xs ys) in
      let moved = subst (λ l. AllByRecursion (λ k. list_any (f k) l ≡ true) ns) at.3 has.1 in
      let rest = all_apart G xs ys (exactly ns (xs ++ ys) fewer apart.1 (each_other n ns xs ys m at.4 apart.0 moved) gives.1) in
      subst (AllByRecursion G) (sym at.3) (all_joined G xs (m ∷ ys) rest.0 (gives.0 m at.4, rest.1))
