-- No tag of a plan is 0 if none of its levels' is.
use Rattle.std.proofs.Common.{◌≡◌, ◌≤◌, ◌<◌, ◌-◌, ℕ, zero, suc, false, List, [], ◌∷◌, ◌++◌, take, drop, length, slice_get, get_or, Some, refl, sym, ap, ◌∙◌, subst, arith}
use Rattle.std.specs.Prelude.{◌==◌}
use Rattle.std.specs.List.{AllByRecursion}
use Rattle.bridge_rules.proofs.BoolLemmas.{none_of, or_false}
use Rattle.bridge_rules.proofs.OptionLemmas.{none_some, some_is}
use Rattle.bridge_terms.specs.Plans.{Plan, Repeat, Slot, done, single, group, all_tags, is_in, tags}
use Rattle.level_places.proofs.Gathering.{first_and_rest}
use Rattle.field_judge.specs.declared.level.BackLevel.{BackLevel}
use Rattle.field_judge.specs.declared.level.BackRow.{BackRow}
use Rattle.field_judge.specs.Levels.{AreRows, IsLevel}
use Rattle.sbe_translation.specs.Numbered.{HasNoZero}

-- ---- what holds of each

pub each_at : {X : Type 0} (P : X → Type 0) (xs : List X) (i : ℕ) (x : X) → AllByRecursion P xs → slice_get xs i ≡ Some x → P x
each_at P [] i x all h = none_some h
each_at P (y ∷ ys) zero x all h = subst P (some_is h) all.0
each_at P (y ∷ ys) (suc i) x all h = each_at P ys i x all.1 h

pub none_left : {X : Type 0} (P : X → Type 0) (xs : List X) → length xs < 1 → AllByRecursion P xs
none_left P [] h = tt
none_left P (x ∷ xs) h = absurd (omega (arith, h))

-- of the first, and of those after it
pub one_more : {X : Type 0} (P : X → Type 0) (d x : X) (left : List X) → 1 ≤ length left → x ≡ get_or left 0 d → P x
    → AllByRecursion P (take (length left - 1) (drop 1 left)) → AllByRecursion P left
one_more P d x left h is own rest =
    subst (AllByRecursion P) (ap (λ y. y ∷ take (length left - 1) (drop 1 left)) is ∙ first_and_rest d left h) (own, rest)

-- ---- the tags of a plan

in_none : (tag : ℕ) (xs ys : List ℕ) → is_in tag xs ≡ false → is_in tag ys ≡ false → is_in tag (xs ++ ys) ≡ false
in_none tag [] ys p q = q
in_none tag (x ∷ xs) ys p q =
    let parts = or_false (x == tag) (is_in tag xs) p in
    none_of (x == tag) (is_in tag (xs ++ ys)) parts.0 (in_none tag xs ys parts.1 q)

free_of_zero : (levels : List BackLevel) (p : Plan) (rows : List BackRow) → AllByRecursion HasNoZero levels → AreRows levels p rows → is_in 0 (tags p) ≡ false
    → is_in 0 (all_tags p) ≡ false
free_of_zero levels done rows each are h = refl
free_of_zero levels (single s rest) rows each are h =
    let parts = or_false (s.tag == 0) (is_in 0 (tags rest)) h in
    none_of (s.tag == 0) (is_in 0 (all_tags rest)) parts.0 (free_of_zero levels rest are.1 each are.4 parts.1)
free_of_zero levels (group g inner rest) rows each are h =
    let parts = or_false (g.tag == 0) (is_in 0 (tags rest)) h in
    let own : is_in 0 (tags inner) ≡ false = subst (λ ts. is_in 0 ts ≡ false) are.7 (each_at HasNoZero levels are.1.level are.2 each are.6) in
    none_of (g.tag == 0) (is_in 0 (all_tags inner ++ all_tags rest)) parts.0
    (in_none 0 (all_tags inner) (all_tags rest) (free_of_zero levels inner are.2.rows each are.8 own) (free_of_zero levels rest are.3 each are.9 parts.1))

pub level_without_zero : (levels : List BackLevel) (p : Plan) (root : BackLevel) → IsLevel levels p root → HasNoZero root → AllByRecursion HasNoZero levels → is_in 0 (all_tags p) ≡ false
level_without_zero levels p root is own each = free_of_zero levels p root.rows each is.rows (subst (λ ts. is_in 0 ts ≡ false) is.tags own)
