-- A message that is lifted, filled and projected is what it was.
use Rattle.std.proofs.Common.{◌≡◌, ℕ, suc, ◌+◌, false, List, [], ◌∷◌, map, length, Ok, Err, refl, sym, ap, ◌∙◌}
use Rattle.std.specs.Bool.{MatchBool}
use denote.Hole.Carrier as carrier
use Rattle.sbe_types.specs.declared.schema.Level as levels
use Rattle.sbe_types.specs.declared.path.Step.TheVariants as way
use Rattle.sbe_types.specs.declared.schema.Group.{Group, Group'}
use Rattle.sbe_types.specs.declared.schema.Level.{Level, Level', Row_of-Group, end_of-Group, more_of-Group}
use Rattle.sbe_types.specs.declared.message.Block.{Block, out-Block}
use Rattle.sbe_types.specs.declared.message.Value.TheVariants as value
use Rattle.sbe_types.specs.declared.message.DataVal.TheVariants as dataval
use Rattle.sbe_types.specs.declared.message.GroupVal.{GroupVal, items_hidden-the_row-Block-1}
use Rattle.sbe_types.specs.declared.message.GroupVal.TheVariants as groupval
use Rattle.version_laws.specs.Differ.{is_old, group_since}
use Rattle.version_laws.specs.Plain.{AllOf}
use Rattle.version_laws.specs.Projected.{each_entry, projected_list, lifted_list, old_field, old_part, projected_block, projected_groups, projected_group, lifted_block, lifted_groups, lifted_group}
use Rattle.version_laws.proofs.BlockMoves.{taken, passed, by_bool}
use Rattle.version_laws.proofs.TailMoves.{each_of}
use Rattle.regrade_laws.specs.Fill.{Fills, field_or_fill, part_or_fill}
use Rattle.regrade_laws.specs.Filled.{in_step, filled_list, filled_entries, group_of, row_length, filled_block, filled_groups, filled_group}
use Rattle.regrade_laws.proofs.Filling.{step_ok, all_ok, block_ok, HasList, block_same, back_list, choice_yes, choice_not}

-- the block has a value for each part that old has, none of them absent, and no others
abbrev mutual
  pub HasBlock : ℕ → Level → Block → Type 0
  HasBlock version (Level' _ _ _ _ _ fields _ groups parts) block =
      HasList field_or_fill (old_field version) fields (out-Block block).fields × HasGroups version groups (out-Block block).groups
      × HasList part_or_fill (old_part version) parts (out-Block block).parts

  pub HasGroups : ℕ → {n : _} → Row_of-Group n → List GroupVal → Type 0
  HasGroups version end_of-Group [] = Unit {0}
  HasGroups version end_of-Group (v ∷ vs) = ⊥
  HasGroups version (more_of-Group g gs) [] = (is_old version (group_since g) ≡ false) × HasGroups version gs []
  HasGroups version (more_of-Group g gs) (v ∷ vs) = MatchBool (is_old version (group_since g)) (HasGroup version g v × HasGroups version gs vs) (HasGroups version gs (v ∷ vs))

  pub HasGroup : ℕ → Group → GroupVal → Type 0
  HasGroup version (Group' dim level) v = (entries : List Block) × (v ≡ groupval.Entries entries) × AllOf (λ e. HasBlock version level e) entries

-- entries that are lifted, filled and projected
back_entries : (version : ℕ) (level : Level) → ((b c : Block) → HasBlock version level b → filled_block level (lifted_block version level b) ≡ Ok c → projected_block version level c ≡ b) →
    (i : ℕ) (es ws : List Block) → AllOf (λ e. HasBlock version level e) es → filled_entries (λ e. filled_block level e) i (map (λ e. lifted_block version level e) es) ≡ Ok ws → map (λ e. projected_block version level e) ws ≡ es
back_entries version level back i [] ws has h = let none : [] ≡ ws = cc in ap (map (λ e. projected_block version level e)) (sym none)
back_entries version level back i (e ∷ es) ws has h =
    let s = all_ok (in_step (way.Entry i) (filled_block level (lifted_block version level e))) (filled_entries (λ e. filled_block level e) (suc i) (map (λ e. lifted_block version level e) es)) ws h in
    let first : projected_block version level s.first ≡ e = back e s.first has.0 (step_ok (way.Entry i) (filled_block level (lifted_block version level e)) s.first s.one) in
    let later = back_entries version level back (suc i) es s.others has.1 s.more in
    ap (map (λ e. projected_block version level e)) s.is ∙ ap (λ b. b ∷ map (λ e. projected_block version level e) s.others) first ∙ ap (λ bs. e ∷ bs) later

-- a group of filled entries
group_ok : (f : Fills (List Block)) (w : GroupVal) → group_of f ≡ Ok w → (ws : List Block) × (f ≡ Ok ws) × (w ≡ groupval.Entries ws)
group_ok (Ok ws) w h = (ws, refl, cc)
group_ok (Err path) w h = cc

mutual
  unfolding projected_block projected_groups projected_group lifted_block lifted_groups lifted_group filled_block filled_groups filled_group levels.out-Level carrier.out

  pub back_block : (version : ℕ) (level : Level) (block c : Block) → HasBlock version level block → filled_block level (lifted_block version level block) ≡ Ok c → projected_block version level c ≡ block
  back_block version (Level' name id semantic since size fields n groups parts) block c has h =
      let old = out-Block block in
      let p = block_ok (filled_list field_or_fill 0 fields (lifted_list (old_field version) value.Absent fields old.fields)) (filled_groups (length fields) groups (lifted_groups version groups old.groups))
      (filled_list part_or_fill (length fields + row_length groups) parts (lifted_list (old_part version) dataval.Absent parts old.parts)) c h in
      let f = back_list field_or_fill (old_field version) value.Absent 0 fields old.fields p.some_fields has.0 p.has_fields in
      let g = back_groups version (length fields) groups old.groups p.some_groups has.1 p.has_groups in
      let d = back_list part_or_fill (old_part version) dataval.Absent (length fields + row_length groups) parts old.parts p.some_parts has.2 p.has_parts in
      ap (projected_block version (Level' name id semantic since size fields n groups parts)) p.is ∙ block_same (projected_list (old_field version) fields p.some_fields) old.fields (projected_groups version groups p.some_groups) old.groups (projected_list (old_part version) parts p.some_parts) old.parts f g d

  back_groups : (version i : ℕ) {n : _} (row : Row_of-Group n) (vs ws : List GroupVal) → HasGroups version row vs → filled_groups i row (lifted_groups version row vs) ≡ Ok ws → projected_groups version row ws ≡ vs
  back_groups version i end_of-Group [] ws has h = refl
  back_groups version i end_of-Group (v ∷ vs) ws has h = absurd has
  back_groups version i (more_of-Group g gs) [] ws has h =
      let s = all_ok (in_step (way.Part i) (filled_group g groupval.Absent)) (filled_groups (suc i) gs (lifted_groups version gs [])) ws h in
      ap (projected_groups version (more_of-Group g gs)) s.is
      ∙ choice_not (is_old version (group_since g)) (projected_group version g s.first ∷ projected_groups version gs s.others) (projected_groups version gs s.others) has.0
      ∙ back_groups version (suc i) gs [] s.others has.1 s.more
  back_groups version i (more_of-Group g gs) (v ∷ vs) ws has h =
      by_bool (projected_groups version (more_of-Group g gs) ws ≡ v ∷ vs) (is_old version (group_since g))
      (λ is.
      let has' = taken (HasGroup version g v × HasGroups version gs vs) (HasGroups version gs (v ∷ vs)) (is_old version (group_since g)) is has in
      let lifts = choice_yes (is_old version (group_since g)) (lifted_group version g v ∷ lifted_groups version gs vs) (groupval.Absent ∷ lifted_groups version gs (v ∷ vs)) is in
      let s = all_ok (in_step (way.Part i) (filled_group g (lifted_group version g v))) (filled_groups (suc i) gs (lifted_groups version gs vs)) ws (ap (filled_groups i (more_of-Group g gs)) (sym lifts) ∙ h) in
      let first = back_group version g v s.first has'.0 (step_ok (way.Part i) (filled_group g (lifted_group version g v)) s.first s.one) in
      let later = back_groups version (suc i) gs vs s.others has'.1 s.more in
      ap (projected_groups version (more_of-Group g gs)) s.is
      ∙ choice_yes (is_old version (group_since g)) (projected_group version g s.first ∷ projected_groups version gs s.others) (projected_groups version gs s.others) is
      ∙ ap (λ x. x ∷ projected_groups version gs s.others) first ∙ ap (λ xs. v ∷ xs) later)
      (λ is.
      let has' = passed (HasGroup version g v × HasGroups version gs vs) (HasGroups version gs (v ∷ vs)) (is_old version (group_since g)) is has in
      let lifts = choice_not (is_old version (group_since g)) (lifted_group version g v ∷ lifted_groups version gs vs) (groupval.Absent ∷ lifted_groups version gs (v ∷ vs)) is in
      let s = all_ok (in_step (way.Part i) (filled_group g groupval.Absent)) (filled_groups (suc i) gs (lifted_groups version gs (v ∷ vs))) ws (ap (filled_groups i (more_of-Group g gs)) (sym lifts) ∙ h) in
      ap (projected_groups version (more_of-Group g gs)) s.is
      ∙ choice_not (is_old version (group_since g)) (projected_group version g s.first ∷ projected_groups version gs s.others) (projected_groups version gs s.others) is
      ∙ back_groups version (suc i) gs (v ∷ vs) s.others has' s.more)

  back_group : (version : ℕ) (g : Group) (v w : GroupVal) → HasGroup version g v → filled_group g (lifted_group version g v) ≡ Ok w → projected_group version g w ≡ v
  back_group version (Group' dim level) v w has h =
      let es = has.0 in
      let lifts : each_entry (λ e. lifted_block version level e) v ≡ groupval.Entries (map (λ e. lifted_block version level e) es) = ap (each_entry (λ e. lifted_block version level e)) has.1 ∙ each_of (λ e. lifted_block version level e) es in
      let told : filled_group (Group' dim level) (groupval.Entries (map (λ e. lifted_block version level e) es)) ≡ Ok w = ap (filled_group (Group' dim level)) (sym lifts) ∙ h in
      let items : group_of (filled_entries (λ e. filled_block level e) 0 (map (λ e. lifted_block version level e) es)) ≡ Ok w =
      ap (λ bs. group_of (filled_entries (λ e. filled_block level e) 0 bs)) (sym (items_hidden-the_row-Block-1 (map (λ e. lifted_block version level e) es))) ∙ told in
      let ok = group_ok (filled_entries (λ e. filled_block level e) 0 (map (λ e. lifted_block version level e) es)) w items in
      let back = back_entries version level (back_block version level) 0 es ok.0 has.2 ok.1 in
      ap (each_entry (λ e. projected_block version level e)) ok.2 ∙ each_of (λ e. projected_block version level e) ok.0 ∙ ap groupval.Entries back ∙ sym has.1
