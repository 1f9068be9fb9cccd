-- A level of one form has groups of one form, and each of its plans writes each value in one form.
use Rattle.std.proofs.Common.{◌≡◌, ◌<◌, ℕ, zero, suc, ◌+◌, Bool, true, false, List, [], ◌∷◌, length, drop, get_or, refl, sym, ap, ◌∙◌, subst, arith}
use Rattle.std.specs.Prelude.{◌&&◌}
use Rattle.std.specs.List.{AllByRecursion, list_all}
use denote.Hole.Carrier as carrier
use Rattle.sbe_types.specs.declared.schema.Group as groups_of
use Rattle.sbe_types.specs.declared.schema.Level as levels
use Rattle.sbe_types.specs.declared.schema.Group.{Group, Group', out-Group}
use Rattle.sbe_types.specs.declared.schema.Level.{Level, Level', out-Level, Row_of-Group, end_of-Group, more_of-Group, items-the_row-Group, items_shown-the_row-Group-0}
use Rattle.reference_graph.specs.Expansion.{Structure, ended, plain, counted}
use Rattle.bridge_rules.proofs.BoolLemmas.{true_false}
use Rattle.bridge_terms.specs.Plans.{Each}
use Rattle.bridge_plan.specs.Covers.{groups_in, level_in}
use Rattle.bridge_plan.specs.StructureFacts.{EachGroup}
use Rattle.bridge_plan.proofs.Covered.{found_group}
use Rattle.back_texts.specs.Forms.{HasOneForm, HaveOneForm}
use Rattle.exact_plans.specs.Exact.{are_exact, is_exact, is_exact_group, is_of_one_form}

-- ---- groups

mutual
  unfolding are_exact is_exact_group

  groups_all : {n : _} (row : Row_of-Group n) → are_exact row ≡ list_all is_exact_group (items-the_row-Group n row)
  groups_all end_of-Group = refl
  groups_all (more_of-Group group rest) = ap (λ b. is_exact_group group && b) (groups_all rest)

pub exact_open : (level : Level) → is_exact level ≡ (list_all is_of_one_form (out-Level level).fields && list_all is_exact_group (out-Level level).groups)
unfolding is_exact levels.out-Level carrier.out
exact_open (Level' name id semantic since block_length fields n groups parts) =
    ap (λ b. list_all is_of_one_form fields && b) (groups_all groups ∙ ap (list_all is_exact_group) (sym (items_shown-the_row-Group-0 n groups)))

pub group_open : (group : Group) → is_exact_group group ≡ is_exact (out-Group group).level
unfolding is_exact_group groups_of.out-Group carrier.out
group_open (Group' dim level) = refl

group_level : (group : Group) → is_exact_group group ≡ is_exact (level_in group)
unfolding is_exact_group
group_level (Group' dim level) = refl

-- ---- what a level of one form has

both : (a b : Bool) → (a && b) ≡ true → (a ≡ true) × (b ≡ true)
both true b h = (refl, h)
both false b h = true_false h refl

each_true : {X : Type 0} (p : X → Bool) (xs : List X) → list_all p xs ≡ true → AllByRecursion (λ x. p x ≡ true) xs
each_true p [] h = tt
each_true p (x ∷ xs) h =
    let is = both (p x) (list_all p xs) h in
    (is.0, each_true p xs is.1)

each_exact : (gs : List Group) → AllByRecursion (λ g. is_exact_group g ≡ true) gs → Each (λ g. is_exact_group g ≡ true) gs
each_exact [] all = tt
each_exact (g ∷ gs) all = (all.0, each_exact gs all.1)

level_groups : (level : Level) → (out-Level level).groups ≡ groups_in level
unfolding levels.out-Level carrier.out
level_groups (Level' name id semantic since block_length fields n groups parts) = items_shown-the_row-Group-0 n groups

level_parts : (level : Level) → is_exact level ≡ true → HaveOneForm level × Each (λ g. is_exact_group g ≡ true) (groups_in level)
level_parts level h =
    let is = both (list_all is_of_one_form (out-Level level).fields) (list_all is_exact_group (out-Level level).groups) (sym (exact_open level) ∙ h) in
    let groups = each_exact (out-Level level).groups (each_true is_exact_group (out-Level level).groups is.1) in
    (each_true is_of_one_form (out-Level level).fields is.0, subst (λ (gs : List Group). Each (λ g. is_exact_group g ≡ true) gs) (level_groups level) groups)

each_group : (s : Structure) (level : Level) → Each (λ g. is_exact_group g ≡ true) (groups_in level) → EachGroup HasOneForm s level
each_group ended level all = tt
each_group (plain tag rest) level all = each_group rest level all
each_group (counted tag inner rest) level all = (
  λ found is.
      let group = found_group (λ g. is_exact_group g ≡ true) tag 0 (groups_in level) found all is in
      let parts = level_parts (level_in found.1) (sym (group_level found.1) ∙ group.0) in
      (parts.0, each_group inner (level_in found.1) parts.1),
  each_group rest level all,
)

pub of_one_form : (level : Level) → is_exact level ≡ true → HaveOneForm level × ((s : Structure) → EachGroup HasOneForm s level)
of_one_form level h =
    let parts = level_parts level h in
    (parts.0, λ s. each_group s level parts.1)

-- ---- groups one by one

pub all_dropped : {X : Type 0} (p : X → Bool) (xs : List X) (i : ℕ) (x : X) → i < length xs → x ≡ get_or xs i x → list_all p (drop i xs) ≡ (p x && list_all p (drop (i + 1) xs))
all_dropped p [] i x h is = absurd (omega arith)
all_dropped p (y ∷ xs) zero x h is = ap (λ z. p z && list_all p xs) (sym is)
all_dropped p (y ∷ xs) (suc i) x h is =
    let next : suc i + 1 ≡ suc (i + 1) = omega arith in
    all_dropped p xs i x (omega arith) is ∙ ap (λ n. p x && list_all p (drop n (y ∷ xs))) (sym next)
