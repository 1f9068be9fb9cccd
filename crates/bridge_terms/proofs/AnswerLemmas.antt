-- Two answers, and an answer for each item, taken apart.
use Rattle.std.proofs.Common.{◌≡◌, suc, List, [], ◌∷◌, length, map, Option, Some, None, refl, sym, ap, ◌∙◌, subst}
use Rattle.bridge_terms.specs.Plans.{Each}
use Rattle.bridge_terms.specs.Gathering.{both, in_front, each}
use Rattle.bridge_rules.proofs.OptionLemmas.{some_is, none_some}

pub both_is : {X Y : Type 0} (a : Option X) (b : Option Y) (z : X × Y) → both a b ≡ Some z → (a ≡ Some z.0) × (b ≡ Some z.1)
both_is None b z h = none_some h
both_is (Some x) None z h = none_some h
both_is (Some x) (Some y) z h = (ap (λ q. Some q.0) (some_is h), ap (λ q. Some q.1) (some_is h))

pub both_some : {X Y : Type 0} (a : Option X) (b : Option Y) (x : X) (y : Y) → a ≡ Some x → b ≡ Some y → both a b ≡ Some (x, y)
both_some a b x y p q = ap (λ a. both a b) p ∙ ap (both (Some x)) q

pub in_front_is : {X : Type 0} (a : Option X) (b : Option (List X)) (z : List X) → in_front a b ≡ Some z → (x : X) × (xs : List X) × (a ≡ Some x) × (b ≡ Some xs) × (z ≡ x ∷ xs)
in_front_is None b z h = none_some h
in_front_is (Some x) None z h = none_some h
in_front_is (Some x) (Some xs) z h = (x, xs, refl, refl, sym (some_is h))

-- each item's answer, turned into another
pub each_turned : {X Y Z : Type 0} (a : X → Option Y) (b : X → Option Z) (f : Y → Z) (P : Y → Type 0) → ((x : X) (y : Y) → a x ≡ Some y → (b x ≡ Some (f y)) × P y) →
    (xs : List X) (ys : List Y) → each a xs ≡ Some ys → (each b xs ≡ Some (map f ys)) × Each P ys × (length xs ≡ length ys)
each_turned {X} a b f P turn [] ys h = subst (λ ys. (each b [] ≡ Some (map f ys)) × Each P ys × (length {A = X} [] ≡ length ys)) (some_is h) (refl, tt, refl)
each_turned {X} {Y} a b f P turn (x ∷ xs) ys h =
    let one = in_front_is (a x) (each a xs) ys h in
    let here = turn x one.0 one.2 in
    let more = each_turned a b f P turn xs one.1 one.3 in
    subst (λ ys. (in_front (b x) (each b xs) ≡ Some (map f ys)) × Each P ys × (length (x ∷ xs) ≡ length ys)) (sym one.4)
    (ap (λ o. in_front o (each b xs)) here.0 ∙ ap (in_front (Some (f one.0))) more.0, (here.1, more.1), ap (λ n. suc n) more.2)

-- and back
pub each_back : {X Y Z : Type 0} (a : X → Option Y) (b : X → Option Z) (f : Y → Z) (P : Y → Type 0) → ((x : X) (y : Y) → b x ≡ Some (f y) → P y → a x ≡ Some y) →
    (xs : List X) (ys : List Y) → each b xs ≡ Some (map f ys) → Each P ys → each a xs ≡ Some ys
each_back a b f P turn [] [] h good = refl
each_back a b f P turn [] (y ∷ ys) h good = absurd (empty_cons (some_is h))
  where
    empty_cons : {Z : Type 0} {z : Z} {zs : List Z} → [] ≡ z ∷ zs → ⊥
    empty_cons k = cc
each_back a b f P turn (x ∷ xs) [] h good =
    let one = in_front_is (b x) (each b xs) [] h in absurd (empty_cons one.4)
  where
    empty_cons : {Z : Type 0} {z : Z} {zs : List Z} → [] ≡ z ∷ zs → ⊥
    empty_cons k = cc
each_back a b f P turn (x ∷ xs) (y ∷ ys) h good =
    let one = in_front_is (b x) (each b xs) (f y ∷ map f ys) h in
    let here : b x ≡ Some (f y) = one.2 ∙ ap Some (head_is one.4) in
    let more : each b xs ≡ Some (map f ys) = one.3 ∙ ap Some (tail_is one.4) in
    ap (λ o. in_front o (each a xs)) (turn x y here good.0) ∙ ap (in_front (Some y)) (each_back a b f P turn xs ys more good.1)
  where
    head_is : {Z : Type 0} {z w : Z} {zs ws : List Z} → z ∷ zs ≡ w ∷ ws → w ≡ z
    head_is k = cc

    tail_is : {Z : Type 0} {z w : Z} {zs ws : List Z} → z ∷ zs ≡ w ∷ ws → ws ≡ zs
    tail_is k = cc

-- as many answers as items
pub each_long : {X Y : Type 0} (a : X → Option Y) (xs : List X) (ys : List Y) → each a xs ≡ Some ys → length ys ≡ length xs
each_long a [] ys h = ap length (sym (some_is h))
each_long a (x ∷ xs) ys h =
    let one = in_front_is (a x) (each a xs) ys h in
    ap length one.4 ∙ ap suc (each_long a xs one.1 one.3)
