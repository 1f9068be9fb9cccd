-- A message that fits is the same in both of two schemas of one version.
use Rattle.std.proofs.Common.{◌≡◌, ◌≤◌, ℕ, suc, ◌+◌, Bool, true, false, List, [], ◌∷◌, map, length, Some, None, Result, Ok, refl, sym, ap, ap₂, ◌∙◌, subst, arith}
use Rattle.std.specs.Prelude.{nat_le, nat_lt, slice_get, if◌then◌else◌}
use Rattle.std.proofs.lemmas.Bool.{le-leb}
use denote.Hole.Carrier as carrier
use Rattle.sbe_types.specs.declared.kind.Order.{Order}
use Rattle.sbe_types.specs.declared.schema.Level as levels
use Rattle.sbe_types.specs.declared.path.Step.TheVariants as way
use Rattle.sbe_types.specs.declared.schema.Field.{Field}
use Rattle.sbe_types.specs.declared.schema.DataField.{DataField}
use Rattle.sbe_types.specs.declared.schema.Group.{Group, Group'}
use Rattle.sbe_types.specs.declared.schema.Level.{Level, Level', out-Level, Row_of-Group, end_of-Group, more_of-Group}
use Rattle.sbe_types.specs.declared.schema.WireSchema.{WireSchema}
use Rattle.sbe_types.specs.declared.message.Value.{Value}
use Rattle.sbe_types.specs.declared.message.Value.TheVariants as value
use Rattle.sbe_types.specs.declared.message.DataVal.{DataVal}
use Rattle.sbe_types.specs.declared.message.DataVal.TheVariants as dataval
use Rattle.sbe_types.specs.declared.message.Block.{Block, out-Block}
use Rattle.sbe_types.specs.declared.message.GroupVal.{GroupVal, items_hidden-the_row-Block-1}
use Rattle.sbe_types.specs.declared.message.GroupVal.TheVariants as groupval
use Rattle.sbe_types.specs.declared.message.Msg.{Msg}
use Rattle.sbe_wire.specs.Faults.{message_named}
use Rattle.sbe_wire.specs.Fits.{Fits, FieldsFit, PartsFit, EachFits, BlockFits, GroupsFit, GroupFits}
use Rattle.sbe_wire.specs.Placed.{IsPlaced}
use Rattle.sbe_wire.proofs.Messages.{named_is}
use Rattle.version_laws.specs.Differ.{differ, is_old, group_since}
use Rattle.version_laws.specs.Plain.{AllOf}
use Rattle.version_laws.specs.Projected.{projected, lifted, lifted_from, lifted_list, lifted_block, lifted_groups, lifted_group, with_block, each_entry, old_field, old_part}
use Rattle.version_laws.proofs.BlockMoves.{taken, take_it}
use Rattle.version_laws.proofs.Stands.{Listed}
use Rattle.version_laws.proofs.Tests.{schema_stands}
use Rattle.version_laws.proofs.TailMoves.{each_of}
use Rattle.regrade_laws.proofs.Effective.{FieldsEffective, PartsEffective, IsEffective, GroupsEffective, GroupEffective, IsWholly}
use Rattle.regrade_laws.specs.Fill.{Fills, field_or_fill, part_or_fill}
use Rattle.regrade_laws.specs.Filled.{in_step, then_all, filled_list, filled_entries, group_of, block_of, row_length, filled_block, filled_groups, filled_group}
use Rattle.regrade_laws.specs.Regraded.{Refusal, in_version, filled_by, filled_in, moved, regraded}
use Rattle.regrade_laws.proofs.Filling.{HasList, block_same, choice_yes}
use Rattle.regrade_laws.proofs.Back.{HasBlock, HasGroups, HasGroup}
use Rattle.regrade_laws.proofs.Fitting.{fits_there, part_there, there_block, block_has}
use Rattle.regrade_laws.proofs.Whole.{named_id}

-- each part is known
abbrev AllKnown : {P : Type 0} → (P → Bool) → List P → Type 0
AllKnown known [] = Unit {0}
AllKnown known (p ∷ ps) = (known p ≡ true) × AllKnown known ps

fields_known : (version : ℕ) (fs : List Field) → FieldsEffective version fs → AllKnown (old_field version) fs
fields_known version [] h = tt
fields_known version (f ∷ fs) h = (h.0, fields_known version fs h.1)

parts_known : (version : ℕ) (ps : List DataField) → PartsEffective version ps → AllKnown (old_part version) ps
parts_known version [] h = tt
parts_known version (p ∷ ps) h = (h.0, parts_known version ps h.1)

apart : true ≡ false → ⊥
apart h = cc

-- where each part is known, the values are lifted as they are
same_list : {P V : Type 0} (kept : P → V → Fills V) (known : P → Bool) (absent : V) (ps : List P) (vs : List V) → AllKnown known ps → HasList kept known ps vs → lifted_list known absent ps vs ≡ vs
same_list kept known absent [] [] all has = refl
same_list kept known absent [] (v ∷ vs) all has = absurd has
same_list kept known absent (p ∷ ps) [] all has = absurd (apart (sym all.0 ∙ has.0))
same_list kept known absent (p ∷ ps) (v ∷ vs) all has =
    choice_yes (known p) (v ∷ lifted_list known absent ps vs) (absent ∷ lifted_list known absent ps (v ∷ vs)) all.0
    ∙ ap (λ xs. v ∷ xs) (same_list kept known absent ps vs all.1 (taken _ _ _ all.0 has).1)

same_entries : (version : ℕ) (level : Level) → ((b : Block) → HasBlock version level b → lifted_block version level b ≡ b) → (es : List Block) → AllOf (λ e. HasBlock version level e) es → map (λ e. lifted_block version level e) es ≡ es
same_entries version level same [] has = refl
same_entries version level same (e ∷ es) has = ap₂ (λ x xs. x ∷ xs) (same e has.0) (same_entries version level same es has.1)

mutual
  unfolding lifted_block lifted_groups lifted_group levels.out-Level carrier.out

  pub same_block : (version : ℕ) (level : Level) (block : Block) → IsEffective version level → HasBlock version level block → lifted_block version level block ≡ block
  same_block version (Level' name id semantic since size fields n groups parts) block all has =
      let old = out-Block block in
      block_same (lifted_list (old_field version) value.Absent fields old.fields) old.fields (lifted_groups version groups old.groups) old.groups (lifted_list (old_part version) dataval.Absent parts old.parts) old.parts
      (same_list field_or_fill (old_field version) value.Absent fields old.fields (fields_known version fields all.0) has.0)
      (same_groups version groups old.groups all.1 has.1)
      (same_list part_or_fill (old_part version) dataval.Absent parts old.parts (parts_known version parts all.2) has.2)

  same_groups : (version : ℕ) {n : _} (row : Row_of-Group n) (vs : List GroupVal) → GroupsEffective version row → HasGroups version row vs → lifted_groups version row vs ≡ vs
  same_groups version end_of-Group [] all has = refl
  same_groups version end_of-Group (v ∷ vs) all has = absurd has
  same_groups version (more_of-Group g gs) [] all has = absurd (apart (sym all.0 ∙ has.0))
  same_groups version (more_of-Group g gs) (v ∷ vs) all has =
      let has' = taken _ _ _ all.0 has in
      choice_yes (is_old version (group_since g)) (lifted_group version g v ∷ lifted_groups version gs vs) (groupval.Absent ∷ lifted_groups version gs (v ∷ vs)) all.0
      ∙ ap₂ (λ x xs. x ∷ xs) (same_group version g v all.1 has'.0) (same_groups version gs vs all.2 has'.1)

  same_group : (version : ℕ) (g : Group) (v : GroupVal) → GroupEffective version g → HasGroup version g v → lifted_group version g v ≡ v
  same_group version (Group' dim level) v all has =
      ap (each_entry (λ e. lifted_block version level e)) has.1 ∙ each_of (λ e. lifted_block version level e) has.0
      ∙ ap groupval.Entries (same_entries version level (λ b h. same_block version level b all h) has.0 has.2) ∙ sym has.1

-- ---- and are filled as they are

there_list : {P V : Type 0} (kept : P → V → Fills V) (known : P → Bool) (i : ℕ) (ps : List P) (vs : List V) → AllKnown known ps → HasList kept known ps vs → filled_list kept i ps vs ≡ Ok vs
there_list kept known i [] [] all has = refl
there_list kept known i [] (v ∷ vs) all has = absurd has
there_list kept known i (p ∷ ps) [] all has = absurd (apart (sym all.0 ∙ has.0))
there_list kept known i (p ∷ ps) (v ∷ vs) all has =
    let has' = taken _ _ _ all.0 has in
    ap (λ o. then_all (in_step (way.Part i) o) (filled_list kept (suc i) ps vs)) has'.0 ∙ ap (then_all (Ok v)) (there_list kept known (suc i) ps vs all.1 has'.1)

there_entries : (version : ℕ) (level : Level) → ((b : Block) → HasBlock version level b → filled_block level b ≡ Ok b) → (i : ℕ) (es : List Block) → AllOf (λ e. HasBlock version level e) es → filled_entries (λ e. filled_block level e) i es ≡ Ok es
there_entries version level there i [] has = refl
there_entries version level there i (e ∷ es) has =
    ap (λ b. then_all (in_step (way.Entry i) b) (filled_entries (λ e. filled_block level e) (suc i) es)) (there e has.0) ∙ ap (then_all (Ok e)) (there_entries version level there (suc i) es has.1)

mutual
  unfolding filled_block filled_groups filled_group levels.out-Level carrier.out

  pub whole_block : (version : ℕ) (level : Level) (block : Block) → IsEffective version level → HasBlock version level block → filled_block level block ≡ Ok block
  whole_block version (Level' name id semantic since size fields n groups parts) block all has =
      let old = out-Block block in
      let f = there_list field_or_fill (old_field version) 0 fields old.fields (fields_known version fields all.0) has.0 in
      let g = whole_groups version (length fields) groups old.groups all.1 has.1 in
      let d = there_list part_or_fill (old_part version) (length fields + row_length groups) parts old.parts (parts_known version parts all.2) has.2 in
      ap (λ x. block_of x (filled_groups (length fields) groups old.groups) (filled_list part_or_fill (length fields + row_length groups) parts old.parts)) f
      ∙ ap (λ x. block_of (Ok old.fields) x (filled_list part_or_fill (length fields + row_length groups) parts old.parts)) g ∙ ap (λ x. block_of (Ok old.fields) (Ok old.groups) x) d

  whole_groups : (version i : ℕ) {n : _} (row : Row_of-Group n) (vs : List GroupVal) → GroupsEffective version row → HasGroups version row vs → filled_groups i row vs ≡ Ok vs
  whole_groups version i end_of-Group [] all has = refl
  whole_groups version i end_of-Group (v ∷ vs) all has = absurd has
  whole_groups version i (more_of-Group g gs) [] all has = absurd (apart (sym all.0 ∙ has.0))
  whole_groups version i (more_of-Group g gs) (v ∷ vs) all has =
      let has' = taken _ _ _ all.0 has in
      ap (λ x. then_all (in_step (way.Part i) x) (filled_groups (suc i) gs vs)) (whole_group version g v all.1 has'.0) ∙ ap (then_all (Ok v)) (whole_groups version (suc i) gs vs all.2 has'.1)

  whole_group : (version : ℕ) (g : Group) (v : GroupVal) → GroupEffective version g → HasGroup version g v → filled_group g v ≡ Ok v
  whole_group version (Group' dim level) v all has =
      let es = has.0 in
      let entries = there_entries version level (λ b h. whole_block version level b all h) 0 es has.2 in
      ap (filled_group (Group' dim level)) has.1 ∙ ap (λ bs. group_of (filled_entries (λ e. filled_block level e) 0 bs)) (items_hidden-the_row-Block-1 es) ∙ ap group_of entries ∙ ap Ok (sym has.1)

-- ---- what fits has a value for each part of its own level

own_fields : (order : Order) (version : ℕ) (fs : List Field) (vs : List Value) → FieldsEffective version fs → FieldsFit order fs vs → HasList field_or_fill (old_field version) fs vs
own_fields order version [] [] all fits = tt
own_fields order version [] (v ∷ vs) all fits = absurd fits
own_fields order version (f ∷ fs) [] all fits = absurd fits
own_fields order version (f ∷ fs) (v ∷ vs) all fits = take_it _ _ _ all.0 (fits_there order f.kind f v fits.0, own_fields order version fs vs all.1 fits.1)

own_parts : (version : ℕ) (ps : List DataField) (vs : List DataVal) → PartsEffective version ps → PartsFit ps vs → HasList part_or_fill (old_part version) ps vs
own_parts version [] [] all fits = tt
own_parts version [] (v ∷ vs) all fits = absurd fits
own_parts version (p ∷ ps) [] all fits = absurd fits
own_parts version (p ∷ ps) (v ∷ vs) all fits = take_it _ _ _ all.0 (part_there p p v fits.0, own_parts version ps vs all.1 fits.1)

own_entries : (order : Order) (version : ℕ) (level : Level) → ((b : Block) → BlockFits order level b → HasBlock version level b) → (es : List Block) → EachFits (λ e. BlockFits order level e) es → AllOf (λ e. HasBlock version level e) es
own_entries order version level own [] fits = tt
own_entries order version level own (e ∷ es) fits = (own e fits.0, own_entries order version level own es fits.1)

mutual
  pub own_block : (order : Order) (version : ℕ) (level : Level) (block : Block) → IsEffective version level → BlockFits order level block → HasBlock version level block
  own_block order version (Level' _ _ _ _ _ fields _ groups parts) block all fits =
      (own_fields order version fields (out-Block block).fields all.0 fits.0, own_groups order version groups (out-Block block).groups all.1 fits.1, own_parts version parts (out-Block block).parts all.2 fits.2)

  own_groups : (order : Order) (version : ℕ) {n : _} (row : Row_of-Group n) (vs : List GroupVal) → GroupsEffective version row → GroupsFit order row vs → HasGroups version row vs
  own_groups order version end_of-Group [] all fits = tt
  own_groups order version end_of-Group (v ∷ vs) all fits = absurd fits
  own_groups order version (more_of-Group g gs) [] all fits = absurd fits
  own_groups order version (more_of-Group g gs) (v ∷ vs) all fits = take_it _ _ _ all.0 (own_group order version g v all.1 fits.0, own_groups order version gs vs all.2 fits.1)

  own_group : (order : Order) (version : ℕ) (g : Group) (v : GroupVal) → GroupEffective version g → GroupFits order g v → HasGroup version g v
  own_group order version (Group' dim level) v all fits = (fits.0, fits.1, own_entries order version level (λ b k. own_block order version level b all k) fits.0 fits.3)

-- ---- the whole message

pub same_back : (from to : WireSchema) → differ from to ≡ None → IsPlaced from → from.version ≡ to.version → IsWholly from → IsWholly to → (m n : Msg) → Fits from m → regraded from to m ≡ Ok n → regraded to from n ≡ Ok m
same_back from to same placed one wholly whole m n fits told =
    let stands = schema_stands from to same in
    let level = fits.0 in
    let at : slice_get from.messages m.template ≡ Some level = fits.1 in
    let there = stands.messages m.template level at in
    let t : ℕ × Level = there.0 in
    let t_at : slice_get to.messages t.0 ≡ Some t.1 = named_is to (out-Level level).id t there.1 in
    let all : IsEffective from.version t.1 = subst (λ v. IsEffective v t.1) (sym one) (whole t.0 t.1 t_at) in
    let has : HasBlock from.version t.1 m.block = block_has (Listed (nat_lt from.version to.version)) from.version from.order level t.1 m.block there.2 fits.3 in
    let lift : lifted_block from.version t.1 m.block ≡ m.block = same_block from.version t.1 m.block all has in
    let filled : filled_block t.1 m.block ≡ Ok m.block = whole_block from.version t.1 m.block all has in
    let up : nat_le from.version to.version ≡ true = le-leb from.version to.version (omega (arith, one)) in
    let again : nat_le to.version from.version ≡ true = le-leb to.version from.version (omega (arith, one)) in
    let moves : Msg = record { template = t.0; version = m.version; block = m.block } in
    let written : Msg = record { template = t.0; version = to.version; block = m.block } in
    let lifts : moved from to m ≡ Some moves =
    choice_yes (nat_le from.version to.version) (lifted from to m) (projected to from m) up ∙ ap (lifted_from from to m) at ∙ ap (λ o. with_block m o (λ other. lifted_block from.version other m.block)) there.1
    ∙ ap (λ b. let x : Msg = record { template = t.0; version = m.version; block = b } in Some x) lift
    in
    let gives : regraded from to m ≡ Ok written = ap (filled_in to) lifts ∙ ap (filled_by to.version moves) t_at ∙ ap (in_version to.version moves) filled in
    let both : ◌≡◌ {A = Result Msg Refusal} (Ok written) (Ok n) = sym gives ∙ told in
    let is : written ≡ n = cc in
    let id : (out-Level t.1).id ≡ (out-Level level).id = named_id 0 (out-Level level).id to.messages t there.1 in
    let first : message_named 0 (out-Level t.1).id from.messages ≡ Some (m.template, level) = ap (λ i. message_named 0 i from.messages) id ∙ placed.ids m.template level at in
    let own : IsEffective to.version level = subst (λ v. IsEffective v level) one (wholly m.template level at) in
    let has_own : HasBlock to.version level m.block = own_block from.order to.version level m.block own fits.3 in
    let lift_own : lifted_block to.version level m.block ≡ m.block = same_block to.version level m.block own has_own in
    let kept : filled_block level m.block ≡ Ok m.block = there_block from.order level m.block fits.3 in
    let back : Msg = record { template = m.template; version = to.version; block = m.block } in
    let lifts_back : moved to from written ≡ Some back =
    choice_yes (nat_le to.version from.version) (lifted to from written) (projected from to written) again ∙ ap (lifted_from to from written) t_at ∙ ap (λ o. with_block written o (λ other. lifted_block to.version other m.block)) first
    ∙ ap (λ b. let x : Msg = record { template = m.template; version = to.version; block = b } in Some x) lift_own
    in
    let version : m.version ≡ from.version = fits.2 in
    ap (regraded to from) (sym is) ∙ ap (filled_in from) lifts_back ∙ ap (filled_by from.version back) at ∙ ap (in_version from.version back) kept
    ∙ ap (λ v. let x : Msg = record { template = m.template; version = v; block = m.block } in Ok x) (sym version)
