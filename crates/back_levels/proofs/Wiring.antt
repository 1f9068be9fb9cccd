-- The parts of a level's plan are those of the level that have their tags as ids.
use Rattle.std.proofs.Common.{◌≡◌, inl, inr, ℕ, ◌+◌, ◌-◌, ◌≤◌, ◌<◌, suc, arith, List, [], ◌∷◌, Option, Some, None, refl, sym, ap, ◌∙◌, subst}
use Rattle.std.specs.Prelude.{slice_get, ◌==◌}
use Rattle.std.proofs.lemmas.Bool.{eqb-true}
use denote.Hole.Carrier as carrier
use Rattle.sbe_types.specs.declared.schema.Group as groups
use Rattle.sbe_types.specs.declared.kind.Leaf.{Leaf as LeafOf}
use Rattle.sbe_types.specs.declared.schema.DataField.{DataField}
use Rattle.sbe_types.specs.declared.schema.Field.{Field}
use Rattle.sbe_types.specs.declared.schema.Group.{Group, Group', out-Group}
use Rattle.sbe_types.specs.declared.schema.Level.{Level, out-Level}
use Rattle.reference_graph.specs.Expansion.{Structure, ended, plain, counted, structure_tags}
use Rattle.bridge_rules.specs.Rules.{Rule}
use Rattle.bridge_rules.specs.Members.{and_then}
use Rattle.bridge_rules.specs.Table.{rule_of, data_rule}
use Rattle.bridge_rules.proofs.OptionLemmas.{some_is, none_some, and_then_is}
use Rattle.bridge_rules.proofs.BoolLemmas.{either, if_true, if_false}
use Rattle.bridge_terms.specs.Plans.{Plan, Slot, Repeat, in_fields, in_data}
use Rattle.bridge_plan.specs.Mappings.{Mapping, datatype_of, delimiter_of}
use Rattle.bridge_plan.specs.Covers.{count_leaf, data_slot, field_slot, group_before, group_of, group_tag, groups_in, level_in, or_slot, plan_of, repeat_before, repeat_of, slot_before, slot_of}
use Rattle.bridge_plan.proofs.PlanParts.{groups_same}
use Rattle.plan_rows.specs.Found.{group_id, field_slot_by, data_slot_by, field_slot_with, data_slot_with}
use Rattle.plan_rows.proofs.Finding.{level_same}
use Rattle.field_blocks.specs.Wired.{IsAt, IsField, IsGroupAt, IsWired}

id_same : (g : Group) → group_tag g ≡ group_id g
unfolding groups.out-Group carrier.out
id_same (Group' dim level) = refl

-- a field with its number among the fields, of which the first is number k
record IsFieldFrom (k : ℕ) (fs : List Field) (s : Slot) : Type 0 where
  number : ℕ
  placed : s.place ≡ in_fields number
  above : k ≤ number
  field : Field
  at : slice_get fs (number - k) ≡ Some field
  id : field.id ≡ s.tag

field_from : (m : Mapping) (tag k : ℕ) (fs : List Field) (s : Slot) → field_slot m tag k fs ≡ Some s → IsFieldFrom k fs s
field_from m tag k [] s h = none_some h
field_from m tag k (f ∷ fs) s h = elim (either (f.id == tag)) [
  | inl t ↦
      let is = and_then_is (rule_of f.kind (datatype_of m tag)) (λ (rule : Rule). Some (field_slot_with tag k rule)) s (sym (if_true (f.id == tag) (field_slot_by m tag k f.kind) (field_slot m tag (suc k) fs) t) ∙ h) in
      let first : k - k ≡ 0 = omega arith in
      record {
        number = k;
        placed = ap (λ (s : Slot). s.place) (sym (some_is is.2));
        above = omega arith;
        field = f;
        at = ap (slice_get (f ∷ fs)) first;
        id = eqb-true f.id tag t ∙ ap (λ (s : Slot). s.tag) (some_is is.2);
      }
  | inr n ↦
      let more = field_from m tag (suc k) fs s (sym (if_false (f.id == tag) (field_slot_by m tag k f.kind) (field_slot m tag (suc k) fs) n) ∙ h) in
      let above : suc k ≤ more.number = more.above in
      let next : more.number - k ≡ suc (more.number - suc k) = omega arith in
      record { number = more.number; placed = more.placed; above = omega (arith, above); field = more.field; at = ap (slice_get (f ∷ fs)) next ∙ more.at; id = more.id }
]

-- a data with its number
record IsDataFrom (k : ℕ) (ds : List DataField) (s : Slot) : Type 0 where
  number : ℕ
  placed : s.place ≡ in_data number
  above : k ≤ number
  part : DataField
  at : slice_get ds (number - k) ≡ Some part
  id : part.id ≡ s.tag

data_from : (m : Mapping) (tag k : ℕ) (ds : List DataField) (s : Slot) → data_slot m tag k ds ≡ Some s → IsDataFrom k ds s
data_from m tag k [] s h = none_some h
data_from m tag k (d ∷ ds) s h = elim (either (d.id == tag)) [
  | inl t ↦
      let is = and_then_is (data_rule d (datatype_of m tag)) (λ (rule : Rule). Some (data_slot_with tag k rule)) s (sym (if_true (d.id == tag) (data_slot_by m tag k d) (data_slot m tag (suc k) ds) t) ∙ h) in
      let first : k - k ≡ 0 = omega arith in
      record {
        number = k;
        placed = ap (λ (s : Slot). s.place) (sym (some_is is.2));
        above = omega arith;
        part = d;
        at = ap (slice_get (d ∷ ds)) first;
        id = eqb-true d.id tag t ∙ ap (λ (s : Slot). s.tag) (some_is is.2);
      }
  | inr n ↦
      let more = data_from m tag (suc k) ds s (sym (if_false (d.id == tag) (data_slot_by m tag k d) (data_slot m tag (suc k) ds) n) ∙ h) in
      let above : suc k ≤ more.number = more.above in
      let next : more.number - k ≡ suc (more.number - suc k) = omega arith in
      record { number = more.number; placed = more.placed; above = omega (arith, above); part = more.part; at = ap (slice_get (d ∷ ds)) next ∙ more.at; id = more.id }
]

slot_at : (m : Mapping) (tag : ℕ) (level : Level) (s : Slot) → slot_of m tag level ≡ Some s → IsAt level s.place s.tag
slot_at m tag level s h = by_field (field_slot m tag 0 (out-Level level).fields) refl h
  where
    by_field : (o : Option Slot) → field_slot m tag 0 (out-Level level).fields ≡ o → or_slot o (data_slot m tag 0 (out-Level level).parts) ≡ Some s → IsAt level s.place s.tag
    by_field (Some t) is k =
        let own = field_from m tag 0 (out-Level level).fields s (is ∙ k) in
        let e : own.number ≡ own.number - 0 = omega arith in
        subst (λ p. IsAt level p s.tag) (sym own.placed) (record { field = own.field; there = ap (slice_get (out-Level level).fields) e ∙ own.at; id = own.id })
    by_field None is k =
        let own = data_from m tag 0 (out-Level level).parts s k in
        let e : own.number ≡ own.number - 0 = omega arith in
        subst (λ p. IsAt level p s.tag) (sym own.placed) (record { part = own.part; there = ap (slice_get (out-Level level).parts) e ∙ own.at; id = own.id })

group_from : (tag k : ℕ) (gs : List Group) (found : ℕ × Group) → group_of tag k gs ≡ Some found → (k ≤ found.0) × (slice_get gs (found.0 - k) ≡ Some found.1) × (group_tag found.1 ≡ tag)
group_from tag k [] found h = none_some h
group_from tag k (g ∷ gs) found h = elim (either (group_tag g == tag)) [
  | inl t ↦
      let is : (k, g) ≡ found = some_is (sym (if_true (group_tag g == tag) (Some (k, g)) (group_of tag (suc k) gs) t) ∙ h) in
      let first : k - k ≡ 0 = omega arith in
      subst (λ (x : ℕ × Group). (k ≤ x.0) × (slice_get (g ∷ gs) (x.0 - k) ≡ Some x.1) × (group_tag x.1 ≡ tag)) is (omega arith, ap (slice_get (g ∷ gs)) first, eqb-true (group_tag g) tag t)
  | inr n ↦
      let more = group_from tag (suc k) gs found (sym (if_false (group_tag g == tag) (Some (k, g)) (group_of tag (suc k) gs) n) ∙ h) in
      let above : suc k ≤ found.0 = more.0 in
      let next : found.0 - k ≡ suc (found.0 - suc k) = omega arith in
      (omega (arith, above), ap (slice_get (g ∷ gs)) next ∙ more.1, more.2)
]

-- ---- plans

wired_slot : (o : Option Slot) (p : Plan) (level : Level) → ((s : Slot) → o ≡ Some s → IsAt level s.place s.tag) → IsWired level p → IsWired level (slot_before o p)
wired_slot None p level there more = more
wired_slot (Some s) p level there more = (there s refl, more)

-- what a repeat takes of its group
record IsRepeatOf (tag place : ℕ) (x : Group) (g : Repeat) : Type 0 where
  tagged : g.tag ≡ tag
  placed : g.place ≡ place
  level : g.level ≡ level_in x

repeat_of_is : (tag place : ℕ) (inner : Structure) (x : Group) (g : Repeat) → repeat_of tag place inner x ≡ Some g → IsRepeatOf tag place x g
repeat_of_is tag place inner x g h = by_both (delimiter_of inner) (count_leaf x) h
  where
    by_both : (d : Option ℕ) (c : Option LeafOf) →
        and_then d (λ delimiter. and_then c (λ count. Some (record { tag = tag; level = level_in x; place = place; delimiter = delimiter; count = count; owned = structure_tags inner }))) ≡ Some g → IsRepeatOf tag place x g
    by_both None c k = none_some k
    by_both (Some d) None k = none_some k
    by_both (Some d) (Some c) k = subst (IsRepeatOf tag place x) (some_is k) (record { tagged = refl; placed = refl; level = refl })

wired_repeat : (o : Option Repeat) (inside p : Plan) (level : Level) (tag number : ℕ) (g : Group) → ((r : Repeat) → o ≡ Some r → IsRepeatOf tag number g r) →
    slice_get (out-Level level).groups number ≡ Some g → group_tag g ≡ tag → IsWired (level_in g) inside → IsWired level p → IsWired level (repeat_before o inside p)
wired_repeat None inside p level tag number g is there same deeper more = more
wired_repeat (Some r) inside p level tag number g is there same deeper more =
    let own = is r refl in (
      record { found = g; there = ap (slice_get (out-Level level).groups) own.placed ∙ there; id = sym (id_same g) ∙ same ∙ sym own.tagged; same = level_same g ∙ sym own.level },
      subst (λ l. IsWired l inside) (sym own.level) deeper,
      more,
    )

-- each part of the plan of a level is the level's
pub plan_wired : (m : Mapping) (s : Structure) (level : Level) → IsWired level (plan_of m s level)
plan_wired m ended level = tt
plan_wired m (plain tag rest) level = wired_slot (slot_of m tag level) (plan_of m rest level) level (slot_at m tag level) (plan_wired m rest level)
plan_wired m (counted tag inner rest) level = by_group (group_of tag 0 (groups_in level)) refl (λ below. plan_wired m inner below) (plan_wired m rest level)
  where
    by_group : (o : Option (ℕ × Group)) → group_of tag 0 (groups_in level) ≡ o → ((below : Level) → IsWired below (plan_of m inner below)) → IsWired level (plan_of m rest level) →
        IsWired level (group_before o tag inner (λ below. plan_of m inner below) (plan_of m rest level))
    by_group None is deeper more = more
    by_group (Some found) is deeper more =
        let own = group_from tag 0 (groups_in level) found is in
        let e : found.0 ≡ found.0 - 0 = omega arith in
        wired_repeat (repeat_of tag found.0 inner found.1) (plan_of m inner (level_in found.1)) (plan_of m rest level) level tag found.0 found.1 (repeat_of_is tag found.0 inner found.1)
        (ap (λ gs. slice_get gs found.0) (groups_same level) ∙ ap (slice_get (groups_in level)) e ∙ own.1) own.2 (deeper (level_in found.1)) more
