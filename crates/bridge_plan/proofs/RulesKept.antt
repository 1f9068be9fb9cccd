-- Each rule of the plan of a checked schema's level keeps what the laws of messages ask.
use Rattle.std.proofs.Common.{◌≡◌, inl, inr, ℕ, suc, List, [], ◌∷◌, Option, Some, None, refl, sym, ap, ◌∙◌, subst}
use Rattle.std.specs.Prelude.{◌==◌}
use Rattle.sbe_types.specs.declared.schema.Field.{Field}
use Rattle.sbe_types.specs.declared.schema.DataField.{DataField}
use Rattle.sbe_types.specs.declared.schema.Group.{Group}
use Rattle.sbe_types.specs.declared.schema.Level.{Level, out-Level}
use Rattle.bridge_rules.specs.Rules.{Rule}
use Rattle.bridge_rules.specs.Members.{and_then}
use Rattle.bridge_terms.specs.Plans.{Plan, Slot, Repeat, done, single, group, in_fields, in_data}
use Rattle.bridge_terms.specs.PlanFacts.{EachRule}
use Rattle.bridge_rules.specs.Sound.{IsSound, ShowsGood}
use Rattle.reference_graph.specs.Expansion.{Structure, ended, plain, counted}
use Rattle.bridge_plan.specs.Mappings.{Mapping, datatype_of}
use Rattle.bridge_rules.specs.Datatypes.{Datatype, whole_number, decimal_number, character, text, boolean, timestamp, time_of_day, calendar_day, month_of_year, raw, code_set, character_set, unbridged}
use Rattle.bridge_rules.specs.Table.{rule_of, data_rule}
use Rattle.bridge_plan.specs.Covers.{field_slot, data_slot, or_slot, slot_of, slot_before, group_of, groups_in, level_in, repeat_of, repeat_before, group_before, plan_of}
use Rattle.bridge_rules.specs.Bounds.{IsMapped, IsFit}
use Rattle.bridge_plan.specs.StructureFacts.{EachGroup}
use Rattle.bridge_plan.specs.CheckedLevels.{AreOrdered, HasOrderedFields, IsOrdered}
use Rattle.bridge_rules.proofs.OptionLemmas.{some_is, none_some, and_then_is}
use Rattle.bridge_rules.proofs.BoolLemmas.{either, if_true, if_false}
use Rattle.bridge_rules.proofs.TableRules.{rule_kept}
use Rattle.bridge_rules.specs.Again.{HasText}
use Rattle.bridge_rules.proofs.RepeatingRules.{rule_repeats}
use Rattle.bridge_rules.proofs.TextsAgain.{texts_again}
use Rattle.bridge_rules.proofs.BoundedRules.{bounded_sound, bounded_shown}

abbrev slot_by : ℕ → ℕ → Rule → Slot
slot_by tag i rule = record { tag = tag; place = in_fields i; rule = rule }

field_fit : (m : Mapping) (tag i : ℕ) (fs : List Field) (slot : Slot) → AreOrdered fs → IsMapped (datatype_of m tag) → field_slot m tag i fs ≡ Some slot → IsFit slot.rule
field_fit m tag i [] slot all mapped h = none_some h
field_fit m tag i (f ∷ fs) slot all mapped h = elim (either (f.id == tag)) [
  | inl t ↦
      let is = and_then_is (rule_of f.kind (datatype_of m tag)) (λ (rule : Rule). Some (slot_by tag i rule)) slot
      (sym (if_true (f.id == tag) (and_then (rule_of f.kind (datatype_of m tag)) (λ rule. Some (slot_by tag i rule))) (field_slot m tag (suc i) fs) t) ∙ h) in
      let kept = rule_kept f.kind (datatype_of m tag) is.0 all.0 mapped is.1 in
      subst IsFit (ap (λ s. s.rule) (some_is is.2)) (kept.0, kept.1, rule_repeats f.kind (datatype_of m tag) is.0 all.0 is.1)
  | inr n ↦ field_fit m tag (suc i) fs slot all.1 mapped
      (sym (if_false (f.id == tag) (and_then (rule_of f.kind (datatype_of m tag)) (λ rule. Some (slot_by tag i rule))) (field_slot m tag (suc i) fs) n) ∙ h)
]

data_fit_by : (d : DataField) (kind : Datatype) (rule : Rule) → data_rule d kind ≡ Some rule → IsFit rule
data_fit_by d raw rule h = subst IsFit (some_is h) (tt, tt, tt)
data_fit_by d text rule h = subst IsFit (some_is h) (tt, tt, tt)
data_fit_by d whole_number rule h = none_some h
data_fit_by d decimal_number rule h = none_some h
data_fit_by d character rule h = none_some h
data_fit_by d boolean rule h = none_some h
data_fit_by d timestamp rule h = none_some h
data_fit_by d time_of_day rule h = none_some h
data_fit_by d calendar_day rule h = none_some h
data_fit_by d month_of_year rule h = none_some h
data_fit_by d (code_set cs) rule h = none_some h
data_fit_by d (character_set cs) rule h = none_some h
data_fit_by d unbridged rule h = none_some h

abbrev data_by : ℕ → ℕ → Rule → Slot
data_by tag i rule = record { tag = tag; place = in_data i; rule = rule }

data_fit : (m : Mapping) (tag i : ℕ) (ds : List DataField) (slot : Slot) → data_slot m tag i ds ≡ Some slot → IsFit slot.rule
data_fit m tag i [] slot h = none_some h
data_fit m tag i (d ∷ ds) slot h = elim (either (d.id == tag)) [
  | inl t ↦
      let is = and_then_is (data_rule d (datatype_of m tag)) (λ (rule : Rule). Some (data_by tag i rule)) slot
      (sym (if_true (d.id == tag) (and_then (data_rule d (datatype_of m tag)) (λ rule. Some (data_by tag i rule))) (data_slot m tag (suc i) ds) t) ∙ h) in
      subst IsFit (ap (λ s. s.rule) (some_is is.2)) (data_fit_by d (datatype_of m tag) is.0 is.1)
  | inr n ↦ data_fit m tag (suc i) ds slot
      (sym (if_false (d.id == tag) (and_then (data_rule d (datatype_of m tag)) (λ rule. Some (data_by tag i rule))) (data_slot m tag (suc i) ds) n) ∙ h)
]

slot_fit : (m : Mapping) (tag : ℕ) (level : Level) (slot : Slot) → AreOrdered (out-Level level).fields → IsMapped (datatype_of m tag) → slot_of m tag level ≡ Some slot → IsFit slot.rule
slot_fit m tag level slot all mapped h = by_field (field_slot m tag 0 (out-Level level).fields) refl h
  where
    by_field : (o : Option Slot) → field_slot m tag 0 (out-Level level).fields ≡ o → or_slot o (data_slot m tag 0 (out-Level level).parts) ≡ Some slot → IsFit slot.rule
    by_field (Some s) is k = field_fit m tag 0 (out-Level level).fields slot all mapped (is ∙ k)
    by_field None is k = data_fit m tag 0 (out-Level level).parts slot k

repeat_fit : (o : Option Repeat) (inner rest : Plan) → EachRule IsFit inner → EachRule IsFit rest → EachRule IsFit (repeat_before o inner rest)
repeat_fit None inner rest a b = b
repeat_fit (Some g) inner rest a b = (a, b)

fit_rules : (m : Mapping) (s : Structure) (level : Level) → AreOrdered (out-Level level).fields → EachGroup HasOrderedFields s level → ((tag : ℕ) → IsMapped (datatype_of m tag)) → EachRule IsFit (plan_of m s level)
fit_rules m ended level all groups mapped = tt
fit_rules m (plain tag rest) level all groups mapped = by_slot (slot_of m tag level) refl (fit_rules m rest level all groups mapped)
  where
    by_slot : (o : Option Slot) → slot_of m tag level ≡ o → EachRule IsFit (plan_of m rest level) → EachRule IsFit (slot_before o (plan_of m rest level))
    by_slot None is more = more
    by_slot (Some slot) is more = (slot_fit m tag level slot all (mapped tag) is, more)
fit_rules m (counted tag inner rest) level all groups mapped =
    by_group (group_of tag 0 (groups_in level)) refl (λ below fields inner_groups. fit_rules m inner below fields inner_groups mapped) (fit_rules m rest level all groups.1 mapped)
  where
    by_group : (o : Option (ℕ × Group)) → group_of tag 0 (groups_in level) ≡ o →
        ((below : Level) → AreOrdered (out-Level below).fields → EachGroup HasOrderedFields inner below → EachRule IsFit (plan_of m inner below)) →
        EachRule IsFit (plan_of m rest level) → EachRule IsFit (group_before o tag inner (λ below. plan_of m inner below) (plan_of m rest level))
    by_group None is deeper more = more
    by_group (Some found) is deeper more =
        let own = groups.0 found is in
        repeat_fit (repeat_of tag found.0 inner found.1) (plan_of m inner (level_in found.1)) (plan_of m rest level) (deeper (level_in found.1) own.0 own.1) more

each_rule : (P Q : Rule → Type 0) → ((rule : Rule) → P rule → Q rule) → (p : Plan) → EachRule P p → EachRule Q p
each_rule P Q f done all = tt
each_rule P Q f (single s rest) all = (f s.rule all.0, each_rule P Q f rest all.1)
each_rule P Q f (group g inner rest) all = (each_rule P Q f inner all.0, each_rule P Q f rest all.1)

pub plan_sound : (m : Mapping) (s : Structure) (level : Level) → IsOrdered m s level → EachRule IsSound (plan_of m s level)
plan_sound m s level is = each_rule IsFit IsSound (λ rule fit. bounded_sound rule fit.0) (plan_of m s level) (fit_rules m s level is.fields is.groups is.mapped)

pub plan_shown : (m : Mapping) (s : Structure) (level : Level) → IsOrdered m s level → EachRule ShowsGood (plan_of m s level)
plan_shown m s level is = each_rule IsFit ShowsGood (λ rule fit. bounded_shown rule fit.0 fit.1) (plan_of m s level) (fit_rules m s level is.fields is.groups is.mapped)

pub plan_again : (m : Mapping) (s : Structure) (level : Level) → IsOrdered m s level → EachRule HasText (plan_of m s level)
plan_again m s level is = each_rule IsFit HasText (λ rule fit. texts_again rule fit.0 fit.2) (plan_of m s level) (fit_rules m s level is.fields is.groups is.mapped)
