-- The number of the only template that has a MsgType.
use Rattle.std.proofs.Common.{◌≡◌, inl, inr, ℕ, zero, suc, Bool, true, false, List, [], ◌∷◌, slice_get, Some, refl, sym, ap, ◌∙◌}
use Rattle.std.specs.Prelude.{bytes_eq}
use Rattle.sbe_types.specs.declared.schema.Level.{Level, out-Level}
use Rattle.bridge_rules.proofs.BoolLemmas.{either, if_false, if_true}
use Rattle.bridge_rules.proofs.OptionLemmas.{none_some, some_is}
use Rattle.bridge_plan.specs.Covers.{templates_of}

cons_nil : {X Z : Type 0} {x : X} {xs : List X} → x ∷ xs ≡ [] → Z
cons_nil h = cc

nil_cons : {X Z : Type 0} {x : X} {xs : List X} → [] ≡ x ∷ xs → Z
nil_cons h = cc

head_is : {X : Type 0} {x y : X} {xs ys : List X} → x ∷ xs ≡ y ∷ ys → x ≡ y
head_is h = cc

tail_is : {X : Type 0} {x y : X} {xs ys : List X} → x ∷ xs ≡ y ∷ ys → xs ≡ ys
tail_is h = cc

module _ (kind : List ℕ) where
  abbrev has : Level → Bool
  has level = bytes_eq (out-Level level).semantic kind

  -- the templates that have it, where the first has it or not
  with_first : (l : Level) (ls : List Level) → has l ≡ true → templates_of kind (l ∷ ls) ≡ l ∷ templates_of kind ls
  with_first l ls h = if_true (has l) (l ∷ templates_of kind ls) (templates_of kind ls) h

  without_first : (l : Level) (ls : List Level) → has l ≡ false → templates_of kind (l ∷ ls) ≡ templates_of kind ls
  without_first l ls h = if_false (has l) (l ∷ templates_of kind ls) (templates_of kind ls) h

  -- one of them is among all
  pub place_of_first : (levels : List Level) (level : Level) (others : List Level) → templates_of kind levels ≡ level ∷ others → (i : ℕ) × (slice_get levels i ≡ Some level)
  place_of_first [] level others h = nil_cons h
  place_of_first (l ∷ ls) level others h = elim (either (has l)) [
    | inl t ↦ (0, ap Some (head_is (sym (with_first l ls t) ∙ h)))
    | inr f ↦
        let more = place_of_first ls level others (sym (without_first l ls f) ∙ h) in
        (suc more.0, more.1)
  ]

  pub has_it : (levels : List Level) (level : Level) (others : List Level) → templates_of kind levels ≡ level ∷ others → has level ≡ true
  has_it [] level others h = nil_cons h
  has_it (l ∷ ls) level others h = elim (either (has l)) [
    | inl t ↦ ap has (sym (head_is (sym (with_first l ls t) ∙ h))) ∙ t
    | inr f ↦ has_it ls level others (sym (without_first l ls f) ∙ h)
  ]

  none_there : {Z : Type 0} (levels : List Level) (i : ℕ) (level : Level) → templates_of kind levels ≡ [] → has level ≡ true → slice_get levels i ≡ Some level → Z
  none_there [] i level none its at = none_some at
  none_there (l ∷ ls) zero level none its at = cons_nil (sym (with_first l ls (ap has (some_is at) ∙ its)) ∙ none)
  none_there (l ∷ ls) (suc i) level none its at = elim (either (has l)) [
    | inl t ↦ cons_nil (sym (with_first l ls t) ∙ none)
    | inr f ↦ none_there ls i level (sym (without_first l ls f) ∙ none) its at
  ]

  -- after one that has it, the only one isn't there again
  not_again : {Z : Type 0} (l : Level) (ls : List Level) (j : ℕ) (level : Level) → templates_of kind (l ∷ ls) ≡ level ∷ [] → has level ≡ true → has l ≡ true → slice_get ls j ≡ Some level → Z
  not_again l ls j level only its own at = none_there ls j level (tail_is (sym (with_first l ls own) ∙ only)) its at

  pub one_place : (levels : List Level) (i j : ℕ) (level : Level) → templates_of kind levels ≡ level ∷ [] → has level ≡ true → slice_get levels i ≡ Some level → slice_get levels j ≡ Some level → i ≡ j
  one_place [] i j level only its a b = none_some a
  one_place (l ∷ ls) zero zero level only its a b = refl
  one_place (l ∷ ls) zero (suc j) level only its a b = not_again l ls j level only its (ap has (some_is a) ∙ its) b
  one_place (l ∷ ls) (suc i) zero level only its a b = not_again l ls i level only its (ap has (some_is b) ∙ its) a
  one_place (l ∷ ls) (suc i) (suc j) level only its a b = elim (either (has l)) [
    | inl t ↦ not_again l ls i level only its t a
    | inr f ↦ ap suc (one_place ls i j level (sym (without_first l ls f) ∙ only) its a b)
  ]
