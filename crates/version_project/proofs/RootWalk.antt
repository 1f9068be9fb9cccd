-- The walk over a root: what is after an addition, and the first pair that fails.
use Rattle.std.proofs.Common.{◌≡◌, ◌<◌, ℕ, ◌+◌, Bool, true, false, cond, List, ◌∷◌, length, drop, get_or, Some, sym, ap, ◌∙◌}
use Rattle.std.specs.Prelude.{slice_get, not, ◌&&◌, ◌||◌}
use Rattle.std.specs.List.{list_any}
use Rattle.sbe_types.specs.declared.schema.DataField.{DataField}
use Rattle.sbe_types.specs.declared.schema.Group.{Group}
use Rattle.sbe_types.specs.declared.message.DataVal.{DataVal}
use Rattle.sbe_types.specs.declared.message.GroupVal.{GroupVal}
use Rattle.version_laws.specs.Projected.{old_part}
use Rattle.version_project.specs.IsPlain.{part_is_plain, group_is_plain, old_group, root_parts_pass, root_groups_pass}
use Rattle.version_project.proofs.Items.{drop_at, item_at}

-- ---- whether any from that one on is known

module _ {X : Type 0} (known : X → Bool) where
  pub any_found : (xs : List X) (i from : ℕ) (x : X) → slice_get xs i ≡ Some x → known x ≡ true → list_any known (drop i xs) ≡ list_any known (drop from xs) → true ≡ list_any known (drop from xs)
  any_found xs i from x is k so_far =
      sym (ap (λ t. t || list_any known (drop (i + 1) xs)) k) ∙ sym (ap (list_any known) (drop_at xs i x is)) ∙ so_far

  pub any_goes_on : (xs : List X) (i from : ℕ) (x : X) → slice_get xs i ≡ Some x → known x ≡ false → list_any known (drop i xs) ≡ list_any known (drop from xs) → list_any known (drop (i + 1) xs) ≡ list_any known (drop from xs)
  any_goes_on xs i from x is k so_far =
      sym (ap (λ t. t || list_any known (drop (i + 1) xs)) k) ∙ sym (ap (list_any known) (drop_at xs i x is)) ∙ so_far

-- ---- data

parts_step : (version : ℕ) (ps : List DataField) (vs : List DataVal) (p : DataField) (v : DataVal) (more : List DataField) (rest : List DataVal) → ps ≡ p ∷ more → vs ≡ v ∷ rest →
    root_parts_pass version ps vs ≡ cond (part_is_plain version p v) (root_parts_pass version more rest) (not (list_any (old_part version) ps))
parts_step version ps vs p v more rest a b =
    ap (λ vs. root_parts_pass version ps vs) b ∙ ap (λ ps. root_parts_pass version ps (v ∷ rest)) a
    ∙ ap (λ l. cond (part_is_plain version p v) (root_parts_pass version more rest) (not (list_any (old_part version) l))) (sym a)

pub parts_go : (version : ℕ) (ps zs : List DataField) (vs : List DataVal) (i : ℕ) (p : DataField) (v : DataVal) (r : Bool) → zs ≡ ps → i < length zs → p ≡ get_or zs i p → slice_get vs i ≡ Some v →
    r ≡ part_is_plain version p v → r ≡ true → root_parts_pass version (drop i ps) (drop i vs) ≡ root_parts_pass version ps vs → root_parts_pass version (drop (i + 1) ps) (drop (i + 1) vs) ≡ root_parts_pass version ps vs
parts_go version ps zs vs i p v r same h at is e t so_far =
    let step = parts_step version (drop i ps) (drop i vs) p v (drop (i + 1) ps) (drop (i + 1) vs) (item_at ps zs i p same h at) (drop_at vs i v is) in
    sym (step ∙ ap (λ b. cond b (root_parts_pass version (drop (i + 1) ps) (drop (i + 1) vs)) (not (list_any (old_part version) (drop i ps)))) (sym e ∙ t)) ∙ so_far

pub parts_stop : (version : ℕ) (ps zs : List DataField) (vs : List DataVal) (i : ℕ) (p : DataField) (v : DataVal) (r any : Bool) → zs ≡ ps → i < length zs → p ≡ get_or zs i p → slice_get vs i ≡ Some v →
    r ≡ part_is_plain version p v → r ≡ false → any ≡ list_any (old_part version) (drop i ps) → root_parts_pass version (drop i ps) (drop i vs) ≡ root_parts_pass version ps vs → not any ≡ root_parts_pass version ps vs
parts_stop version ps zs vs i p v r any same h at is e t found so_far =
    let step = parts_step version (drop i ps) (drop i vs) p v (drop (i + 1) ps) (drop (i + 1) vs) (item_at ps zs i p same h at) (drop_at vs i v is) in
    ap (λ a. not a) found ∙ sym (step ∙ ap (λ b. cond b (root_parts_pass version (drop (i + 1) ps) (drop (i + 1) vs)) (not (list_any (old_part version) (drop i ps)))) (sym e ∙ t)) ∙ so_far

-- ---- groups, with the data after them

module _ (version : ℕ) (ps : List DataField) (ds : List DataVal) where
  groups_step : (gs : List Group) (vs : List GroupVal) (g : Group) (v : GroupVal) (more : List Group) (rest : List GroupVal) → gs ≡ g ∷ more → vs ≡ v ∷ rest →
      root_groups_pass version ps ds gs vs ≡ cond (group_is_plain version g v) (root_groups_pass version ps ds more rest) (not (list_any (old_group version) gs) && not (list_any (old_part version) ps))
  groups_step gs vs g v more rest a b =
      ap (λ vs. root_groups_pass version ps ds gs vs) b ∙ ap (λ gs. root_groups_pass version ps ds gs (v ∷ rest)) a
      ∙ ap (λ l. cond (group_is_plain version g v) (root_groups_pass version ps ds more rest) (not (list_any (old_group version) l) && not (list_any (old_part version) ps))) (sym a)

  pub groups_go : (gs zs : List Group) (vs : List GroupVal) (i : ℕ) (g : Group) (v : GroupVal) (r : Bool) → zs ≡ gs → i < length zs → g ≡ get_or zs i g → slice_get vs i ≡ Some v → r ≡ group_is_plain version g v → r ≡ true →
      root_groups_pass version ps ds (drop i gs) (drop i vs) ≡ root_groups_pass version ps ds gs vs → root_groups_pass version ps ds (drop (i + 1) gs) (drop (i + 1) vs) ≡ root_groups_pass version ps ds gs vs
  groups_go gs zs vs i g v r same h at is e t so_far =
      let step = groups_step (drop i gs) (drop i vs) g v (drop (i + 1) gs) (drop (i + 1) vs) (item_at gs zs i g same h at) (drop_at vs i v is) in
      sym (step ∙ ap (λ b. cond b (root_groups_pass version ps ds (drop (i + 1) gs) (drop (i + 1) vs)) (not (list_any (old_group version) (drop i gs)) && not (list_any (old_part version) ps))) (sym e ∙ t)) ∙ so_far

  pub groups_stop : (gs zs : List Group) (vs : List GroupVal) (i : ℕ) (g : Group) (v : GroupVal) (r any after : Bool) → zs ≡ gs → i < length zs → g ≡ get_or zs i g → slice_get vs i ≡ Some v → r ≡ group_is_plain version g v → r ≡ false →
      any ≡ list_any (old_group version) (drop i gs) → after ≡ list_any (old_part version) ps →
      root_groups_pass version ps ds (drop i gs) (drop i vs) ≡ root_groups_pass version ps ds gs vs → (not any && not after) ≡ root_groups_pass version ps ds gs vs
  groups_stop gs zs vs i g v r any after same h at is e t found more so_far =
      let step = groups_step (drop i gs) (drop i vs) g v (drop (i + 1) gs) (drop (i + 1) vs) (item_at gs zs i g same h at) (drop_at vs i v is) in
      ap (λ a. not a && not after) found ∙ ap (λ b. not (list_any (old_group version) (drop i gs)) && not b) more
      ∙ sym (step ∙ ap (λ b. cond b (root_groups_pass version ps ds (drop (i + 1) gs) (drop (i + 1) vs)) (not (list_any (old_group version) (drop i gs)) && not (list_any (old_part version) ps))) (sym e ∙ t)) ∙ so_far
