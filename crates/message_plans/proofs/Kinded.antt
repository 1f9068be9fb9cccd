-- Which templates have a MsgType.
use Rattle.std.proofs.Common.{◌≡◌, inl, inr, ℕ, zero, suc, ◌+◌, ◌-◌, ◌≤◌, ◌<◌, Bool, true, false, cond, List, [], ◌∷◌, ◌++◌, Some, None, map, length, take, drop, get_or, refl, sym, ap, ◌∙◌, subst, arith}
use Rattle.std.specs.Prelude.{if◌then◌else◌, bytes_eq, not, slice_get, filter}
use Rattle.std.specs.List.{list_any}
use Rattle.std.proofs.lemmas.Slice.Eq.{bytes_eq-Decides}
use Rattle.std.proofs.lemmas.List.Elements.{All-drop, All-get_or, All-take}
use Rattle.std.proofs.lemmas.Option.{same_Some}
use Rattle.sbe_types.specs.declared.schema.Level.{Level, out-Level}
use Rattle.id_tables.specs.Places.{place_by, name_place}
use Rattle.bridge_rules.specs.Rules.{Rule}
use Rattle.bridge_rules.proofs.BoolLemmas.{either, or_false, true_false, second_of}
use Rattle.bridge_plan.specs.Mappings.{Mapping}
use Rattle.bridge_plan.specs.Covers.{templates_of}
use Rattle.bridge_mapping.proofs.Typing.{turned, from_there}
use Rattle.bridge_cover.specs.Kinds.{HasKindsInOrder}
use Rattle.level_places.proofs.Gathering.{first_and_rest}
use Rattle.message_plans.specs.declared.plan.TemplatePlan.{TemplatePlan}
use Rattle.message_plans.specs.Plans.{has_kind, AreInOrder, AreSeveral, AreTemplates, IsOnly, IsTemplate}

abbrev kind_of : Level → List ℕ
kind_of l = (out-Level l).semantic

-- ---- none or some

any_none : {X : Type 0} (p : X → Bool) (xs : List X) → list_any p xs ≡ false → filter p xs ≡ []
any_none p [] h = refl
any_none p (x ∷ xs) h =
    let two = or_false (p x) (list_any p xs) h in
    ap (λ b. cond b (x ∷ filter p xs) (filter p xs)) two.0 ∙ any_none p xs two.1

any_some : {X : Type 0} (p : X → Bool) (xs : List X) → list_any p xs ≡ true → (y : X) × (ys : List X) × (filter p xs ≡ y ∷ ys)
any_some p [] h = true_false h refl
any_some p (x ∷ xs) h = elim (either (p x)) [
  | inl t ↦ (x, filter p xs, ap (λ b. cond b (x ∷ filter p xs) (filter p xs)) t)
  | inr f ↦
      let more = any_some p xs (second_of (p x) (list_any p xs) h f) in
      (more.0, more.1, ap (λ b. cond b (x ∷ filter p xs) (filter p xs)) f ∙ more.2)
]

-- ---- a place within a list

pub at_within : {X : Type 0} (xs : List X) (i : ℕ) (x : X) → slice_get xs i ≡ Some x → i < length xs
at_within [] i x h = cc
at_within (y ∷ ys) zero x h = omega arith
at_within (y ∷ ys) (suc i) x h = let more = at_within ys i x h in omega (arith, more)

-- ---- those after a template that has it

module _ (kind : List ℕ) (l : Level) (ls : List Level) (own : bytes_eq kind (kind_of l) ≡ true) where
  same : kind ≡ kind_of l
  same = (bytes_eq-Decides kind (kind_of l)).0 own

  there : templates_of kind (l ∷ ls) ≡ l ∷ templates_of kind ls
  there = ap (λ b. cond b (l ∷ templates_of kind ls) (templates_of kind ls)) (sym (turned kind (kind_of l)) ∙ own)

  alone : list_any (has_kind (kind_of l)) ls ≡ false → templates_of kind (l ∷ ls) ≡ l ∷ []
  alone h = there ∙ ap (λ t. l ∷ t) (any_none (has_kind kind) ls (ap (λ k. list_any (has_kind k) ls) same ∙ h))

  several : list_any (has_kind (kind_of l)) ls ≡ true → AreSeveral kind (l ∷ ls)
  several h =
      let more = any_some (has_kind kind) ls (ap (λ k. list_any (has_kind k) ls) same ∙ h) in
      record { first = l; second = more.0; others = more.1; several = there ∙ ap (λ t. l ∷ t) more.2 }

passed : (kind : List ℕ) (l : Level) (ls : List Level) → bytes_eq kind (kind_of l) ≡ false → templates_of kind (l ∷ ls) ≡ templates_of kind ls
passed kind l ls h = ap (λ b. cond b (l ∷ templates_of kind ls) (templates_of kind ls)) (sym (turned kind (kind_of l)) ∙ h)

several_later : (kind : List ℕ) (l : Level) (ls : List Level) → bytes_eq kind (kind_of l) ≡ false → AreSeveral kind ls → AreSeveral kind (l ∷ ls)
several_later kind l ls h s = record { first = s.first; second = s.second; others = s.others; several = passed kind l ls h ∙ s.several }

only_later : (kind : List ℕ) (l : Level) (ls : List Level) (i : ℕ) → bytes_eq kind (kind_of l) ≡ false → IsOnly kind ls i → IsOnly kind (l ∷ ls) (suc i)
only_later kind l ls i h o = record { level = o.level; there = o.there; only = passed kind l ls h ∙ o.only }

-- ---- the first place of a MsgType

-- the template at a place, and whether it is the only one of the MsgType
record IsAt {R : Type 0} (kind : List ℕ) (levels : List Level) (ts : List (TemplatePlan R)) (i : ℕ) : Type 0 where
  template : TemplatePlan R
  at : slice_get ts i ≡ Some template
  only : template.alone ≡ true → IsOnly kind levels i
  several : template.alone ≡ false → AreSeveral kind levels

not_false : (b c : Bool) → b ≡ not c → b ≡ true → c ≡ false
not_false b true is h = true_false h is
not_false b false is h = refl

not_true : (b c : Bool) → b ≡ not c → b ≡ false → c ≡ true
not_true b true is h = refl
not_true b false is h = true_false is h

not_here : (kind : List ℕ) (k : ℕ) (l : Level) (ls : List Level) (b : Bool) → bytes_eq kind (kind_of l) ≡ b →
    (if b then Some k else place_by (bytes_eq kind) (k + 1) (map kind_of ls)) ≡ None → (place_by (bytes_eq kind) (k + 1) (map kind_of ls) ≡ None → templates_of kind ls ≡ []) →
    templates_of kind (l ∷ ls) ≡ []
not_here kind k l ls true own j later = cc
not_here kind k l ls false other j later = passed kind l ls other ∙ later j

unknown_from : (kind : List ℕ) (k : ℕ) (levels : List Level) → place_by (bytes_eq kind) k (map kind_of levels) ≡ None → templates_of kind levels ≡ []
unknown_from kind k [] h = refl
unknown_from kind k (l ∷ ls) h = not_here kind k l ls (bytes_eq kind (kind_of l)) refl h (unknown_from kind (k + 1) ls)

-- a MsgType without a place has no template
pub none_has : (kind : List ℕ) (levels : List Level) → name_place kind (map kind_of levels) ≡ None → templates_of kind levels ≡ []
none_has kind levels h = unknown_from kind 0 levels h

at_later : {R : Type 0} (kind : List ℕ) (l : Level) (ls : List Level) (t : TemplatePlan R) (more : List (TemplatePlan R)) (i : ℕ) → bytes_eq kind (kind_of l) ≡ false → IsAt kind ls more i →
    IsAt kind (l ∷ ls) (t ∷ more) (suc i)
at_later kind l ls t more i h own =
    record { template = own.template; at = own.at; only = λ b. only_later kind l ls i h (own.only b); several = λ b. several_later kind l ls h (own.several b) }

module _ {R : Type 0} (follows : R → Rule → Type 0) (m : Mapping) where
  at_first : (kind : List ℕ) (l : Level) (ls : List Level) (t : TemplatePlan R) (more : List (TemplatePlan R)) → IsTemplate follows m l ls t → bytes_eq kind (kind_of l) ≡ true →
      IsAt kind (l ∷ ls) (t ∷ more) 0
  at_first kind l ls t more is own = record {
    template = t;
    at = refl;
    only = λ h. record { level = l; there = refl; only = alone kind l ls own (not_false t.alone (list_any (has_kind (kind_of l)) ls) is.alone h) };
    several = λ h. several kind l ls own (not_true t.alone (list_any (has_kind (kind_of l)) ls) is.alone h);
  }

  at_place : (kind : List ℕ) (k i : ℕ) (l : Level) (ls : List Level) (t : TemplatePlan R) (more : List (TemplatePlan R)) → IsTemplate follows m l ls t → (b : Bool) → bytes_eq kind (kind_of l) ≡ b →
      (if b then Some k else place_by (bytes_eq kind) (k + 1) (map kind_of ls)) ≡ Some i → (place_by (bytes_eq kind) (k + 1) (map kind_of ls) ≡ Some i → IsAt kind ls more (i - (k + 1))) →
      IsAt kind (l ∷ ls) (t ∷ more) (i - k)
  at_place kind k i l ls t more is true own j later =
      let same : k ≡ i = same_Some k i j in
      let first : 0 ≡ i - k = omega (arith, same) in
      subst (IsAt kind (l ∷ ls) (t ∷ more)) first (at_first kind l ls t more is own)
  at_place kind k i l ls t more is false other j later =
      let above : k + 1 ≤ i = from_there (bytes_eq kind) (k + 1) i (map kind_of ls) j in
      let next : suc (i - (k + 1)) ≡ i - k = omega (arith, above) in
      subst (IsAt kind (l ∷ ls) (t ∷ more)) next (at_later kind l ls t more (i - (k + 1)) other (later j))

  found_from : (kind : List ℕ) (k i : ℕ) (levels : List Level) (ts : List (TemplatePlan R)) → AreTemplates follows m levels ts → place_by (bytes_eq kind) k (map kind_of levels) ≡ Some i →
      IsAt kind levels ts (i - k)
  found_from kind k i [] ts are h = cc
  found_from kind k i (l ∷ ls) ts are h =
      subst (λ xs. IsAt kind (l ∷ ls) xs (i - k)) (sym are.2)
      (at_place kind k i l ls are.0 are.1 are.3 (bytes_eq kind (kind_of l)) refl h (found_from kind (k + 1) i ls are.1 are.4))

  -- the template at the first place of a MsgType
  pub template_is : (kind : List ℕ) (i : ℕ) (levels : List Level) (ts : List (TemplatePlan R)) → AreTemplates follows m levels ts → name_place kind (map kind_of levels) ≡ Some i →
      (t : TemplatePlan R) × (slice_get ts i ≡ Some t) × (t.alone ≡ true → IsOnly kind levels i) × (t.alone ≡ false → AreSeveral kind levels)
  template_is kind i levels ts are h =
      let own = found_from kind 0 i levels ts are h in
      let e : i ≡ i - 0 = omega arith in
      (own.template, ap (slice_get ts) e ∙ own.at, λ b. subst (IsOnly kind levels) (sym e) (own.only b), own.several)

  -- ---- the template of a number

  pub template_at : (levels : List Level) (ts : List (TemplatePlan R)) (i : ℕ) (level : Level) → AreTemplates follows m levels ts → slice_get levels i ≡ Some level →
      (t : TemplatePlan R) × (others : List Level) × (slice_get ts i ≡ Some t) × IsTemplate follows m level others t
  template_at [] ts i level are at = cc
  template_at (l ∷ ls) ts zero level are at =
      let same : l ≡ level = same_Some l level at in
      (are.0, ls, ap (λ xs. slice_get xs 0) are.2, subst (λ x. IsTemplate follows m x ls are.0) same are.3)
  template_at (l ∷ ls) ts (suc i) level are at =
      let own = template_at ls are.1 i level are.4 at in
      (own.0, own.1, ap (λ xs. slice_get xs (suc i)) are.2 ∙ own.2, own.3)

  pub as_many : (levels : List Level) (ts : List (TemplatePlan R)) → AreTemplates follows m levels ts → length ts ≡ length levels
  as_many [] ts are = ap length are
  as_many (l ∷ ls) ts are = ap length are.2 ∙ ap suc (as_many ls are.1 are.4)

-- ---- how they are made

-- templates in front of those of other levels
pub record GoesBefore {R : Type 0} (follows : R → Rule → Type 0) (m : Mapping) (levels left : List Level) (ts : List (TemplatePlan R)) : Type 0 where
  pub front : (more : List (TemplatePlan R)) → AreTemplates follows m left more → AreTemplates follows m levels (ts ++ more)

moved : {X : Type 0} (xs : List X) (x : X) (ys : List X) → (xs ++ x ∷ []) ++ ys ≡ xs ++ (x ∷ ys)
moved [] x ys = refl
moved (z ∷ xs) x ys = ap (λ zs. z ∷ zs) (moved xs x ys)

no_more : {X : Type 0} (xs : List X) → xs ++ [] ≡ xs
no_more [] = refl
no_more (x ∷ xs) = ap (λ zs. x ∷ zs) (no_more xs)

module _ {R : Type 0} (follows : R → Rule → Type 0) (m : Mapping) (levels : List Level) where
  pub none_yet : GoesBefore follows m levels levels []
  none_yet = record { front = λ more h. h }

  pub one_more : (l : Level) (ls : List Level) (ts : List (TemplatePlan R)) (t : TemplatePlan R) → GoesBefore follows m levels (l ∷ ls) ts → IsTemplate follows m l ls t →
      GoesBefore follows m levels ls (ts ++ t ∷ [])
  one_more l ls ts t before is = record {
    front = λ more h. subst (AreTemplates follows m levels) (sym (moved ts t more)) (before.front (t ∷ more) (t, more, refl, is, h));
  }

  -- the template of the first of those that are left
  pub one_more_of : (d l : Level) (left : List Level) (ts : List (TemplatePlan R)) (t : TemplatePlan R) → 1 ≤ length left → l ≡ get_or left 0 d → GoesBefore follows m levels left ts →
      IsTemplate follows m l (take (length left - 1) (drop 1 left)) t → GoesBefore follows m levels (take (length left - 1) (drop 1 left)) (ts ++ t ∷ [])
  one_more_of d l left ts t h is before own =
      let rest = take (length left - 1) (drop 1 left) in
      let whole : l ∷ rest ≡ left = ap (λ x. x ∷ rest) is ∙ first_and_rest d left h in
      one_more l rest ts t (subst (λ ls. GoesBefore follows m levels ls ts) (sym whole) before) own

  pub all_made : (left : List Level) (ts : List (TemplatePlan R)) → length left < 1 → GoesBefore follows m levels left ts → AreTemplates follows m levels ts
  all_made [] ts h before = subst (AreTemplates follows m levels) (no_more ts) (before.front [] refl)
  all_made (l ∷ ls) ts h before = absurd (omega arith)

-- ---- the kinds of what is left

pub first_in_order : (d l : Level) (left : List Level) → 1 ≤ length left → l ≡ get_or left 0 d → AreInOrder left → HasKindsInOrder l
first_in_order d l left h is are = subst HasKindsInOrder (sym is) (All-get_or HasKindsInOrder left 0 d (omega (arith, h)) are)

pub later_in_order : (left : List Level) → AreInOrder left → AreInOrder (take (length left - 1) (drop 1 left))
later_in_order left are = All-take HasKindsInOrder (length left - 1) (drop 1 left) (All-drop HasKindsInOrder 1 left are)
