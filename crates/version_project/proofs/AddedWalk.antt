-- The walks for the first added group or data, and the texts of their paths.
use Rattle.std.proofs.Common.{◌≡◌, ◌≤◌, ◌<◌, ◌+◌, ℕ, Bool, true, false, cond, List, [], ◌∷◌, ◌++◌, length, drop, Option, Some, None, refl, sym, ap, ◌∙◌, subst}
use Rattle.std.proofs.lemmas.List.{drop_all}
use Rattle.std.specs.Prelude.{◌||◌, not, slice_get, codes, ⊤}
use Rattle.std.specs.List.{list_any}
use Rattle.std.specs.Option.{option_map}
use denote.Hole.Carrier as carrier
use Rattle.sbe_types.specs.declared.schema.DataField.{DataField}
use Rattle.sbe_types.specs.declared.schema.Level as levels
use Rattle.sbe_types.specs.declared.schema.Group as groups_of
use Rattle.sbe_types.specs.declared.schema.Group.{Group, Group', out-Group}
use Rattle.sbe_types.specs.declared.schema.Level.{Level, Level', out-Level, Row_of-Group, end_of-Group, more_of-Group, items-the_row-Group, items_shown-the_row-Group-0}
use Rattle.sbe_wire.specs.Faults.{message_named}
use Rattle.version_laws.specs.Answer.{dotted}
use Rattle.version_laws.specs.Differ.{is_old, group_since, group_name}
use Rattle.version_laws.specs.Forward.{NamePath, or_later, below, added_part, added_in, added_group, added_below, has_old_part, has_old_group, early_part, early_group, added_at_root, added_of, added_among}
use Rattle.version_laws.specs.Projected.{old_part}
use Rattle.version_project.specs.Additions.{text, inside_text, added_each, early_each}
use Rattle.version_project.specs.IsPlain.{old_group}
use Rattle.version_project.specs.Sought.{Finds}
use Rattle.version_project.proofs.Items.{drop_at}
use Rattle.version_project.proofs.OldParts.{old_has, old_lacks, name_is, old_has_group, old_lacks_group}

-- ---- paths have names

IsNamed : Option NamePath → Type 0
IsNamed None = ⊤
IsNamed (Some []) = ⊥
IsNamed (Some (n ∷ ns)) = ⊤

named_below : (n : List ℕ) (a : Option NamePath) → IsNamed (below n a)
unfolding IsNamed
named_below n None = tt
named_below n (Some path) = tt

named_one : (n : List ℕ) → IsNamed (Some (n ∷ []))
unfolding IsNamed
named_one n = tt

named_later : (a b : Option NamePath) → IsNamed a → IsNamed b → IsNamed (or_later a b)
named_later None b h k = k
named_later (Some path) b h k = h

named_either : (t : Bool) (a b : Option NamePath) → IsNamed a → IsNamed b → IsNamed (cond t a b)
named_either true a b h k = h
named_either false a b h k = k

named_part : (version : ℕ) (ps : List DataField) → IsNamed (added_part version ps)
unfolding IsNamed
named_part version [] = tt
named_part version (p ∷ ps) = named_either (is_old version p.since) (added_part version ps) (Some (p.name ∷ [])) (named_part version ps) tt

named_each : (version : ℕ) (gs : List Group) → IsNamed (added_each version gs)
unfolding IsNamed
named_each version [] = tt
named_each version (g ∷ gs) =
    named_either (is_old version (group_since g)) (or_later (below (group_name g) (added_below version g)) (added_each version gs)) (Some (group_name g ∷ []))
    (named_later (below (group_name g) (added_below version g)) (added_each version gs) (named_below (group_name g) (added_below version g)) (named_each version gs)) tt

named_early_part : (version : ℕ) (ps : List DataField) → IsNamed (early_part version ps)
unfolding IsNamed
named_early_part version [] = tt
named_early_part version (p ∷ ps) =
    named_either (is_old version p.since || not (has_old_part version ps)) (early_part version ps) (Some (p.name ∷ [])) (named_early_part version ps) tt

named_early : (version : ℕ) (parts : List DataField) (gs : List Group) → IsNamed (early_each version parts gs)
named_early version parts [] = named_early_part version parts
named_early version parts (g ∷ gs) =
    named_either (is_old version (group_since g)) (or_later (below (group_name g) (added_below version g)) (early_each version parts gs))
    (cond (list_any (old_group version) gs || list_any (old_part version) parts) (Some (group_name g ∷ [])) (early_each version parts gs))
    (named_later (below (group_name g) (added_below version g)) (early_each version parts gs) (named_below (group_name g) (added_below version g)) (named_early version parts gs))
    (named_either (list_any (old_group version) gs || list_any (old_part version) parts) (Some (group_name g ∷ [])) (early_each version parts gs) (named_one (group_name g)) (named_early version parts gs))

text_below : (n : List ℕ) (a : Option NamePath) → IsNamed a → inside_text n (text a) ≡ text (below n a)
unfolding IsNamed
text_below n None h = refl
text_below n (Some []) h = absurd h
text_below n (Some (x ∷ xs)) h = refl

-- ---- one level, over the list of its groups

rows_added : (version : ℕ) {n : _} (gs : Row_of-Group n) → added_group version gs ≡ added_each version (items-the_row-Group _ gs)
unfolding added_group
rows_added version end_of-Group = refl
rows_added version (more_of-Group g gs) =
    ap (λ m. cond (is_old version (group_since g)) (or_later (below (group_name g) (added_below version g)) m) (Some (group_name g ∷ []))) (rows_added version gs)

pub level_added : (version : ℕ) (level : Level) → added_in version level ≡ or_later (added_each version (out-Level level).groups) (added_part version (out-Level level).parts)
unfolding added_in levels.out-Level carrier.out
level_added version (Level' name id semantic since block_length fs n gs ps) =
    ap (λ a. or_later a (added_part version ps)) (rows_added version gs ∙ ap (added_each version) (sym (items_shown-the_row-Group-0 n gs)))

rows_old : (version : ℕ) {n : _} (gs : Row_of-Group n) → has_old_group version gs ≡ list_any (old_group version) (items-the_row-Group _ gs)
rows_old version end_of-Group = refl
rows_old version (more_of-Group g gs) = ap (λ t. is_old version (group_since g) || t) (rows_old version gs)

parts_old : (version : ℕ) (ps : List DataField) → has_old_part version ps ≡ list_any (old_part version) ps
parts_old version [] = refl
parts_old version (p ∷ ps) = ap (λ t. is_old version p.since || t) (parts_old version ps)

rows_early : (version : ℕ) (parts : List DataField) {n : _} (gs : Row_of-Group n) → early_group version parts gs ≡ early_each version parts (items-the_row-Group _ gs)
rows_early version parts end_of-Group = refl
rows_early version parts (more_of-Group g gs) =
    ap (λ m. cond (is_old version (group_since g)) (or_later (below (group_name g) (added_below version g)) m)
    (cond (has_old_group version gs || has_old_part version parts) (Some (group_name g ∷ [])) m)) (rows_early version parts gs)
    ∙ ap (λ t. cond (is_old version (group_since g)) (or_later (below (group_name g) (added_below version g)) (early_each version parts (items-the_row-Group _ gs)))
    (cond (t || has_old_part version parts) (Some (group_name g ∷ [])) (early_each version parts (items-the_row-Group _ gs)))) (rows_old version gs)
    ∙ ap (λ t. cond (is_old version (group_since g)) (or_later (below (group_name g) (added_below version g)) (early_each version parts (items-the_row-Group _ gs)))
    (cond (list_any (old_group version) (items-the_row-Group _ gs) || t) (Some (group_name g ∷ [])) (early_each version parts (items-the_row-Group _ gs)))) (parts_old version parts)

pub root_added : (version : ℕ) (level : Level) → added_at_root version level ≡ early_each version (out-Level level).parts (out-Level level).groups
unfolding added_at_root levels.out-Level carrier.out
root_added version (Level' name id semantic since block_length fs n gs ps) =
    rows_early version ps gs ∙ ap (early_each version ps) (sym (items_shown-the_row-Group-0 n gs))

below_is : (version : ℕ) (g : Group) → added_below version g ≡ added_in version (out-Group g).level
unfolding added_below groups_of.out-Group carrier.out
below_is version (Group' dim level) = refl

pub group_below : (version : ℕ) (g : Group) (a : Option (List ℕ)) → a ≡ text (added_in version (out-Group g).level) →
    inside_text (out-Level (out-Group g).level).name a ≡ text (below (group_name g) (added_below version g))
group_below version g a is =
    ap (inside_text (out-Level (out-Group g).level).name) is
    ∙ text_below (out-Level (out-Group g).level).name (added_in version (out-Group g).level)
    (subst IsNamed (sym (level_added version (out-Group g).level))
    (named_later (added_each version (out-Level (out-Group g).level).groups) (added_part version (out-Level (out-Group g).level).parts)
    (named_each version (out-Level (out-Group g).level).groups) (named_part version (out-Level (out-Group g).level).parts)))
    ∙ ap (λ n. text (below n (added_in version (out-Group g).level))) (sym (name_is g)) ∙ ap (λ a. text (below (group_name g) a)) (sym (below_is version g))

pub text_is : {a b : Option NamePath} → a ≡ b → text a ≡ text b
text_is h = ap text h

-- ---- one answer, or a later one

pub later_some : (a b : Option NamePath) (x : Option (List ℕ)) (p : List ℕ) → x ≡ text a → x ≡ Some p → Some p ≡ text (or_later a b)
later_some None b x p h k = absurd (none_some (sym k ∙ h))
  where
    none_some : {A : Type 0} {x : A} → ◌≡◌ {A = Option A} (Some x) None → ⊥
    none_some h = cc
later_some (Some path) b x p h k = sym k ∙ h

pub later_none : (a b : Option NamePath) (x : Option (List ℕ)) → x ≡ text a → x ≡ None → text b ≡ text (or_later a b)
later_none None b x h k = refl
later_none (Some path) b x h k = absurd (some_none (sym h ∙ k))
  where
    some_none : {A : Type 0} {x : A} → ◌≡◌ {A = Option A} (Some x) None → ⊥
    some_none h = cc

-- ---- the groups of an entry

module _ (version : ℕ) (gs : List Group) (whole : Option (List ℕ)) where
  each_step : (i : ℕ) (g : Group) → slice_get gs i ≡ Some g → (out-Level (out-Group g).level).since ≤ version →
      added_each version (drop i gs) ≡ or_later (below (group_name g) (added_below version g)) (added_each version (drop (i + 1) gs))
  each_step i g at h =
      ap (added_each version) (drop_at gs i g at)
      ∙ ap (λ t. cond t (or_later (below (group_name g) (added_below version g)) (added_each version (drop (i + 1) gs))) (Some (group_name g ∷ []))) (old_has_group version g h)

  pub each_goes : (i : ℕ) (g : Group) (x : Option (List ℕ)) → slice_get gs i ≡ Some g → (out-Level (out-Group g).level).since ≤ version → x ≡ text (below (group_name g) (added_below version g)) → x ≡ None →
      text (added_each version (drop i gs)) ≡ whole → text (added_each version (drop (i + 1) gs)) ≡ whole
  each_goes i g x at h is none so_far =
      later_none (below (group_name g) (added_below version g)) (added_each version (drop (i + 1) gs)) x is none ∙ sym (ap text (each_step i g at h)) ∙ so_far

  pub each_stops : (i : ℕ) (g : Group) (x : Option (List ℕ)) (p : List ℕ) → slice_get gs i ≡ Some g → (out-Level (out-Group g).level).since ≤ version → x ≡ text (below (group_name g) (added_below version g)) → x ≡ Some p →
      text (added_each version (drop i gs)) ≡ whole → Some p ≡ whole
  each_stops i g x p at h is some so_far =
      later_some (below (group_name g) (added_below version g)) (added_each version (drop (i + 1) gs)) x p is some ∙ sym (ap text (each_step i g at h)) ∙ so_far

  pub each_new : (i : ℕ) (g : Group) → slice_get gs i ≡ Some g → version < (out-Level (out-Group g).level).since →
      text (added_each version (drop i gs)) ≡ whole → Some (out-Level (out-Group g).level).name ≡ whole
  each_new i g at h so_far =
      ap Some (sym (name_is g))
      ∙ sym (ap text (ap (added_each version) (drop_at gs i g at)
      ∙ ap (λ t. cond t (or_later (below (group_name g) (added_below version g)) (added_each version (drop (i + 1) gs))) (Some (group_name g ∷ []))) (old_lacks_group version g h))) ∙ so_far

  pub each_ends : (n : ℕ) → length gs ≤ n → text (added_each version (drop n gs)) ≡ whole → None ≡ whole
  each_ends n h so_far = sym (ap (λ l. text (added_each version l)) (drop_all n gs h)) ∙ so_far

-- ---- the data of an entry

module _ (version : ℕ) (ps : List DataField) (whole : Option (List ℕ)) where
  pub part_goes : (i : ℕ) (p : DataField) → slice_get ps i ≡ Some p → p.since ≤ version → text (added_part version (drop i ps)) ≡ whole → text (added_part version (drop (i + 1) ps)) ≡ whole
  part_goes i p at h so_far =
      sym (ap text (ap (added_part version) (drop_at ps i p at) ∙ ap (λ t. cond t (added_part version (drop (i + 1) ps)) (Some (p.name ∷ []))) (old_has version p.since h))) ∙ so_far

  pub part_new : (i : ℕ) (p : DataField) → slice_get ps i ≡ Some p → version < p.since → text (added_part version (drop i ps)) ≡ whole → Some p.name ≡ whole
  part_new i p at h so_far =
      sym (ap text (ap (added_part version) (drop_at ps i p at) ∙ ap (λ t. cond t (added_part version (drop (i + 1) ps)) (Some (p.name ∷ []))) (old_lacks version p.since h))) ∙ so_far

  pub part_ends : (n : ℕ) → length ps ≤ n → text (added_part version (drop n ps)) ≡ whole → None ≡ whole
  part_ends n h so_far = sym (ap (λ l. text (added_part version l)) (drop_all n ps h)) ∙ so_far

  pub early_part_old : (i : ℕ) (p : DataField) → slice_get ps i ≡ Some p → p.since ≤ version → text (early_part version (drop i ps)) ≡ whole → text (early_part version (drop (i + 1) ps)) ≡ whole
  early_part_old i p at h so_far =
      sym (ap text (ap (early_part version) (drop_at ps i p at)
      ∙ ap (λ t. cond (t || not (has_old_part version (drop (i + 1) ps))) (early_part version (drop (i + 1) ps)) (Some (p.name ∷ []))) (old_has version p.since h))) ∙ so_far

  either_way : (t : Bool) (a b : Option NamePath) → cond (t || true) a b ≡ a
  either_way true a b = refl
  either_way false a b = refl

  pub early_part_last : (i : ℕ) (p : DataField) → slice_get ps i ≡ Some p → list_any (old_part version) (drop (i + 1) ps) ≡ false →
      text (early_part version (drop i ps)) ≡ whole → text (early_part version (drop (i + 1) ps)) ≡ whole
  early_part_last i p at none so_far =
      sym (ap text (ap (early_part version) (drop_at ps i p at)
      ∙ ap (λ t. cond (is_old version p.since || not t) (early_part version (drop (i + 1) ps)) (Some (p.name ∷ []))) (parts_old version (drop (i + 1) ps) ∙ none)
      ∙ either_way (is_old version p.since) (early_part version (drop (i + 1) ps)) (Some (p.name ∷ [])))) ∙ so_far

  pub early_part_stops : (i : ℕ) (p : DataField) → slice_get ps i ≡ Some p → version < p.since → list_any (old_part version) (drop (i + 1) ps) ≡ true →
      text (early_part version (drop i ps)) ≡ whole → Some p.name ≡ whole
  early_part_stops i p at h more so_far =
      sym (ap text (ap (early_part version) (drop_at ps i p at)
      ∙ ap (λ t. cond (t || not (has_old_part version (drop (i + 1) ps))) (early_part version (drop (i + 1) ps)) (Some (p.name ∷ []))) (old_lacks version p.since h)
      ∙ ap (λ t. cond (not t) (early_part version (drop (i + 1) ps)) (Some (p.name ∷ []))) (parts_old version (drop (i + 1) ps) ∙ more))) ∙ so_far

  pub early_part_ends : (n : ℕ) → length ps ≤ n → text (early_part version (drop n ps)) ≡ whole → None ≡ whole
  early_part_ends n h so_far = sym (ap (λ l. text (early_part version l)) (drop_all n ps h)) ∙ so_far

-- ---- the root

module _ (version : ℕ) (ps : List DataField) (gs : List Group) (whole : Option (List ℕ)) where
  abbrev early_from : ℕ → Option NamePath
  early_from i = early_each version ps (drop i gs)

  early_step : (i : ℕ) (g : Group) → slice_get gs i ≡ Some g → (out-Level (out-Group g).level).since ≤ version →
      early_from i ≡ or_later (below (group_name g) (added_below version g)) (early_from (i + 1))
  early_step i g at h =
      ap (early_each version ps) (drop_at gs i g at)
      ∙ ap (λ t. cond t (or_later (below (group_name g) (added_below version g)) (early_from (i + 1)))
      (cond (list_any (old_group version) (drop (i + 1) gs) || list_any (old_part version) ps) (Some (group_name g ∷ [])) (early_from (i + 1)))) (old_has_group version g h)

  early_added : (i : ℕ) (g : Group) → slice_get gs i ≡ Some g → version < (out-Level (out-Group g).level).since →
      early_from i ≡ cond (list_any (old_group version) (drop (i + 1) gs) || list_any (old_part version) ps) (Some (group_name g ∷ [])) (early_from (i + 1))
  early_added i g at h =
      ap (early_each version ps) (drop_at gs i g at)
      ∙ ap (λ t. cond t (or_later (below (group_name g) (added_below version g)) (early_from (i + 1)))
      (cond (list_any (old_group version) (drop (i + 1) gs) || list_any (old_part version) ps) (Some (group_name g ∷ [])) (early_from (i + 1)))) (old_lacks_group version g h)

  pub early_goes : (i : ℕ) (g : Group) (x : Option (List ℕ)) → slice_get gs i ≡ Some g → (out-Level (out-Group g).level).since ≤ version → x ≡ text (below (group_name g) (added_below version g)) → x ≡ None →
      text (early_from i) ≡ whole → text (early_from (i + 1)) ≡ whole
  early_goes i g x at h is none so_far = later_none (below (group_name g) (added_below version g)) (early_from (i + 1)) x is none ∙ sym (ap text (early_step i g at h)) ∙ so_far

  pub early_stops : (i : ℕ) (g : Group) (x : Option (List ℕ)) (p : List ℕ) → slice_get gs i ≡ Some g → (out-Level (out-Group g).level).since ≤ version → x ≡ text (below (group_name g) (added_below version g)) → x ≡ Some p →
      text (early_from i) ≡ whole → Some p ≡ whole
  early_stops i g x p at h is some so_far = later_some (below (group_name g) (added_below version g)) (early_from (i + 1)) x p is some ∙ sym (ap text (early_step i g at h)) ∙ so_far

  pub early_new : (i : ℕ) (g : Group) → slice_get gs i ≡ Some g → version < (out-Level (out-Group g).level).since → (list_any (old_group version) (drop (i + 1) gs) || list_any (old_part version) ps) ≡ true →
      text (early_from i) ≡ whole → Some (out-Level (out-Group g).level).name ≡ whole
  early_new i g at h more so_far =
      ap Some (sym (name_is g))
      ∙ sym (ap text (early_added i g at h ∙ ap (λ t. cond t (Some (group_name g ∷ [])) (early_from (i + 1))) more)) ∙ so_far

  pub early_last : (i : ℕ) (g : Group) → slice_get gs i ≡ Some g → version < (out-Level (out-Group g).level).since → (list_any (old_group version) (drop (i + 1) gs) || list_any (old_part version) ps) ≡ false →
      text (early_from i) ≡ whole → text (early_from (i + 1)) ≡ whole
  early_last i g at h none so_far = sym (ap text (early_added i g at h ∙ ap (λ t. cond t (Some (group_name g ∷ [])) (early_from (i + 1))) none)) ∙ so_far

  pub early_ends : (n : ℕ) → length gs ≤ n → text (early_from n) ≡ whole → text (early_part version ps) ≡ whole
  early_ends n h so_far = sym (ap (λ l. text (early_each version ps l)) (drop_all n gs h)) ∙ so_far

-- ---- messages

pub message_below : (version : ℕ) (new : Level) (olds : List Level) (i : ℕ) (a : Option (List ℕ)) → Finds olds (message_named 0 (out-Level new).id olds) (Some i) → a ≡ text (added_at_root version new) →
    inside_text (out-Level new).name a ≡ text (added_of version new (message_named 0 (out-Level new).id olds))
message_below version new olds i a found is =
    ap (inside_text (out-Level new).name) is
    ∙ text_below (out-Level new).name (added_at_root version new) (subst IsNamed (sym (root_added version new)) (named_early version (out-Level new).parts (out-Level new).groups))
    ∙ ap (λ m. text (added_of version new m)) (sym found.2)

pub message_none : (version : ℕ) (new : Level) (olds : List Level) → Finds olds (message_named 0 (out-Level new).id olds) None →
    None ≡ text (added_of version new (message_named 0 (out-Level new).id olds))
message_none version new olds found = ap (λ m. text (added_of version new m)) (sym found)

module _ (version : ℕ) (olds news : List Level) (whole : Option (List ℕ)) where
  abbrev here : Level → Option NamePath
  here new = added_of version new (message_named 0 (out-Level new).id olds)

  among_step : (i : ℕ) (new : Level) → slice_get news i ≡ Some new → added_among version olds (drop i news) ≡ or_later (here new) (added_among version olds (drop (i + 1) news))
  among_step i new at = ap (added_among version olds) (drop_at news i new at)

  pub among_goes : (i : ℕ) (new : Level) (x : Option (List ℕ)) → slice_get news i ≡ Some new → x ≡ text (here new) → x ≡ None →
      text (added_among version olds (drop i news)) ≡ whole → text (added_among version olds (drop (i + 1) news)) ≡ whole
  among_goes i new x at is none so_far = later_none (here new) (added_among version olds (drop (i + 1) news)) x is none ∙ sym (ap text (among_step i new at)) ∙ so_far

  pub among_stops : (i : ℕ) (new : Level) (x : Option (List ℕ)) (p : List ℕ) → slice_get news i ≡ Some new → x ≡ text (here new) → x ≡ Some p →
      text (added_among version olds (drop i news)) ≡ whole → Some p ≡ whole
  among_stops i new x p at is some so_far = later_some (here new) (added_among version olds (drop (i + 1) news)) x p is some ∙ sym (ap text (among_step i new at)) ∙ so_far

  pub among_ends : (n : ℕ) → length news ≤ n → text (added_among version olds (drop n news)) ≡ whole → None ≡ whole
  among_ends n h so_far = sym (ap (λ l. text (added_among version olds l)) (drop_all n news h)) ∙ so_far

-- ---- two tests

pub first_holds : (a b x : Bool) → x ≡ a → x ≡ true → (a || b) ≡ true
first_holds a b x is t = ap (λ a. a || b) (sym is ∙ t)

pub second_holds : (a b x y : Bool) → x ≡ a → x ≡ false → y ≡ b → y ≡ true → (a || b) ≡ true
second_holds a b x y is f same t = ap (λ a. a || b) (sym is ∙ f) ∙ sym same ∙ t

pub none_holds : (a b x y : Bool) → x ≡ a → x ≡ false → y ≡ b → y ≡ false → (a || b) ≡ false
none_holds a b x y is f same g = ap (λ a. a || b) (sym is ∙ f) ∙ sym same ∙ g
