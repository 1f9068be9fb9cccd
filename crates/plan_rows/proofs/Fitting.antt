-- The places of a plan are some of its level, and its rules are those of the table.
use Rattle.std.proofs.Common.{◌≡◌, inl, inr, ℕ, ◌+◌, ◌-◌, ◌≤◌, ◌<◌, suc, arith, List, [], ◌∷◌, length, Option, Some, None, refl, sym, ap, ◌∙◌, subst}
use Rattle.std.specs.Prelude.{slice_get, ◌==◌}
use Rattle.sbe_types.specs.declared.kind.Leaf.{Leaf as LeafOf}
use Rattle.sbe_types.specs.declared.schema.Field.{Field}
use Rattle.sbe_types.specs.declared.schema.DataField.{DataField}
use Rattle.sbe_types.specs.declared.schema.Group.{Group}
use Rattle.sbe_types.specs.declared.schema.Level.{Level, out-Level}
use Rattle.reference_graph.specs.Expansion.{Structure, ended, plain, counted, structure_tags}
use Rattle.bridge_rules.specs.Datatypes.{Datatype}
use Rattle.bridge_rules.specs.Rules.{Rule}
use Rattle.bridge_rules.specs.Members.{and_then}
use Rattle.bridge_rules.specs.Table.{rule_of, data_rule}
use Rattle.bridge_rules.proofs.OptionLemmas.{some_is, none_some, and_then_is}
use Rattle.bridge_rules.proofs.BoolLemmas.{either, if_true, if_false}
use Rattle.bridge_terms.specs.Plans.{Plan, Slot, Repeat, in_fields, in_data}
use Rattle.bridge_plan.specs.Mappings.{Mapping, datatype_of, delimiter_of}
use Rattle.bridge_plan.specs.Covers.{count_leaf, data_slot, field_slot, group_before, group_of, group_tag, groups_in, level_in, or_slot, plan_of, repeat_before, repeat_of, slot_before, slot_of}
use Rattle.bridge_plan.proofs.PlanParts.{groups_same}
use Rattle.message_walk.specs.Rows.{Fits, IsThere}
use Rattle.plan_rows.specs.Found.{field_slot_by, data_slot_by, field_slot_with, data_slot_with}
use Rattle.plan_rows.proofs.Finding.{level_same}

-- ---- what is found is there

-- a field with its number among the fields, of which the first is number k
record IsFieldFrom (k : ℕ) (fs : List Field) (s : Slot) : Type 0 where
  number : ℕ
  placed : s.place ≡ in_fields number
  above : k ≤ number
  field : Field
  at : slice_get fs (number - k) ≡ Some field
  table : (datatype : Datatype) × (rule_of field.kind datatype ≡ Some s.rule)

field_from : (m : Mapping) (tag k : ℕ) (fs : List Field) (s : Slot) → field_slot m tag k fs ≡ Some s → IsFieldFrom k fs s
field_from m tag k [] s h = none_some h
field_from m tag k (f ∷ fs) s h = elim (either (f.id == tag)) [
  | inl t ↦
      let is = and_then_is (rule_of f.kind (datatype_of m tag)) (λ (rule : Rule). Some (field_slot_with tag k rule)) s (sym (if_true (f.id == tag) (field_slot_by m tag k f.kind) (field_slot m tag (suc k) fs) t) ∙ h) in
      let first : k - k ≡ 0 = omega arith in
      record {
        number = k;
        placed = ap (λ (s : Slot). s.place) (sym (some_is is.2));
        above = omega arith;
        field = f;
        at = ap (slice_get (f ∷ fs)) first;
        table = (datatype_of m tag, is.1 ∙ ap (λ (s : Slot). Some s.rule) (some_is is.2));
      }
  | inr n ↦
      let more = field_from m tag (suc k) fs s (sym (if_false (f.id == tag) (field_slot_by m tag k f.kind) (field_slot m tag (suc k) fs) n) ∙ h) in
      let above : suc k ≤ more.number = more.above in
      let next : more.number - k ≡ suc (more.number - suc k) = omega arith in
      record { number = more.number; placed = more.placed; above = omega (arith, above); field = more.field; at = ap (slice_get (f ∷ fs)) next ∙ more.at; table = more.table }
]

-- a data with its number
record IsDataFrom (k count : ℕ) (s : Slot) : Type 0 where
  number : ℕ
  placed : s.place ≡ in_data number
  before : number < k + count

data_from : (m : Mapping) (tag k : ℕ) (ds : List DataField) (s : Slot) → data_slot m tag k ds ≡ Some s → IsDataFrom k (length ds) s
data_from m tag k [] s h = none_some h
data_from m tag k (d ∷ ds) s h = elim (either (d.id == tag)) [
  | inl t ↦
      let is = and_then_is (data_rule d (datatype_of m tag)) (λ (rule : Rule). Some (data_slot_with tag k rule)) s (sym (if_true (d.id == tag) (data_slot_by m tag k d) (data_slot m tag (suc k) ds) t) ∙ h) in
      record { number = k; placed = ap (λ (s : Slot). s.place) (sym (some_is is.2)); before = omega arith }
  | inr n ↦
      let more = data_from m tag (suc k) ds s (sym (if_false (d.id == tag) (data_slot_by m tag k d) (data_slot m tag (suc k) ds) n) ∙ h) in
      let before : more.number < suc k + length ds = more.before in
      record { number = more.number; placed = more.placed; before = omega (arith, before) }
]

slot_there : (m : Mapping) (tag : ℕ) (level : Level) (s : Slot) → slot_of m tag level ≡ Some s → IsThere s.rule s.place (out-Level level).fields (out-Level level).parts
slot_there m tag level s h = by_field (field_slot m tag 0 (out-Level level).fields) refl h
  where
    by_field : (o : Option Slot) → field_slot m tag 0 (out-Level level).fields ≡ o → or_slot o (data_slot m tag 0 (out-Level level).parts) ≡ Some s →
        IsThere s.rule s.place (out-Level level).fields (out-Level level).parts
    by_field (Some t) is k =
        let own = field_from m tag 0 (out-Level level).fields s (is ∙ k) in
        let e : own.number ≡ own.number - 0 = omega arith in
        subst (λ p. IsThere s.rule p (out-Level level).fields (out-Level level).parts) (sym own.placed)
        (record { field = own.field; there = ap (slice_get (out-Level level).fields) e ∙ own.at; by_table = record { datatype = own.table.0; is = own.table.1 } })
    by_field None is k =
        let own = data_from m tag 0 (out-Level level).parts s k in
        let before : own.number < 0 + length (out-Level level).parts = own.before in
        subst (λ p. IsThere s.rule p (out-Level level).fields (out-Level level).parts) (sym own.placed) (omega (arith, before))

first_there : (k : ℕ) (g : Group) (gs : List Group) → (k ≤ k) × (slice_get (g ∷ gs) (k - k) ≡ Some g)
first_there k g gs = let first : k - k ≡ 0 = omega arith in (omega arith, ap (slice_get (g ∷ gs)) first)

group_from : (tag k : ℕ) (gs : List Group) (found : ℕ × Group) → group_of tag k gs ≡ Some found → (k ≤ found.0) × (slice_get gs (found.0 - k) ≡ Some found.1)
group_from tag k [] found h = none_some h
group_from tag k (g ∷ gs) found h = elim (either (group_tag g == tag)) [
  | inl t ↦
      let is : (k, g) ≡ found = some_is (sym (if_true (group_tag g == tag) (Some (k, g)) (group_of tag (suc k) gs) t) ∙ h) in
      subst (λ (x : ℕ × Group). (k ≤ x.0) × (slice_get (g ∷ gs) (x.0 - k) ≡ Some x.1)) is (first_there k g gs)
  | inr n ↦
      let more = group_from tag (suc k) gs found (sym (if_false (group_tag g == tag) (Some (k, g)) (group_of tag (suc k) gs) n) ∙ h) in
      let above : suc k ≤ found.0 = more.0 in
      let next : found.0 - k ≡ suc (found.0 - suc k) = omega arith in
      (omega (arith, above), ap (slice_get (g ∷ gs)) next ∙ more.1)
]

-- ---- plans

-- the places of a plan are some of the level's
abbrev pub FitsLevel : Plan → Level → Type 0
FitsLevel p level = Fits p (out-Level level).fields (out-Level level).groups (out-Level level).parts

fits_slot : (o : Option Slot) (p : Plan) (level : Level) → ((s : Slot) → o ≡ Some s → IsThere s.rule s.place (out-Level level).fields (out-Level level).parts) → FitsLevel p level →
    FitsLevel (slot_before o p) level
fits_slot None p level there more = more
fits_slot (Some s) p level there more = (there s refl, more)

place_is : (tag place : ℕ) (inner : Structure) (x : Group) (g : Repeat) → repeat_of tag place inner x ≡ Some g → g.place ≡ place
place_is tag place inner x g h = by_both (delimiter_of inner) (count_leaf x) h
  where
    by_both : (d : Option ℕ) (c : Option LeafOf) →
        and_then d (λ delimiter. and_then c (λ count. Some (record { tag = tag; level = level_in x; place = place; delimiter = delimiter; count = count; owned = structure_tags inner }))) ≡ Some g → g.place ≡ place
    by_both None c k = none_some k
    by_both (Some d) None k = none_some k
    by_both (Some d) (Some c) k = ap (λ (r : Repeat). r.place) (sym (some_is k))

fits_repeat : (o : Option Repeat) (inside p : Plan) (level : Level) (number : ℕ) (g : Group) → ((r : Repeat) → o ≡ Some r → r.place ≡ number) →
    slice_get (out-Level level).groups number ≡ Some g → FitsLevel inside (level_in g) → FitsLevel p level → FitsLevel (repeat_before o inside p) level
fits_repeat None inside p level number g placed there deeper more = more
fits_repeat (Some r) inside p level number g placed there deeper more =
    ((g, ap (slice_get (out-Level level).groups) (placed r refl) ∙ there, subst (FitsLevel inside) (sym (level_same g)) deeper), more)

-- the plan of a level has places of that level alone, with rules of the table
pub plan_fits : (m : Mapping) (s : Structure) (level : Level) → FitsLevel (plan_of m s level) level
plan_fits m ended level = tt
plan_fits m (plain tag rest) level = fits_slot (slot_of m tag level) (plan_of m rest level) level (slot_there m tag level) (plan_fits m rest level)
plan_fits m (counted tag inner rest) level = by_group (group_of tag 0 (groups_in level)) refl (λ below. plan_fits m inner below) (plan_fits m rest level)
  where
    by_group : (o : Option (ℕ × Group)) → group_of tag 0 (groups_in level) ≡ o → ((below : Level) → FitsLevel (plan_of m inner below) below) → FitsLevel (plan_of m rest level) level →
        FitsLevel (group_before o tag inner (λ below. plan_of m inner below) (plan_of m rest level)) level
    by_group None is deeper more = more
    by_group (Some found) is deeper more =
        let own = group_from tag 0 (groups_in level) found is in
        let e : found.0 ≡ found.0 - 0 = omega arith in
        fits_repeat (repeat_of tag found.0 inner found.1) (plan_of m inner (level_in found.1)) (plan_of m rest level) level found.0 found.1 (place_is tag found.0 inner found.1)
        (ap (λ gs. slice_get gs found.0) (groups_same level) ∙ ap (slice_get (groups_in level)) e ∙ own.1) (deeper (level_in found.1)) more
