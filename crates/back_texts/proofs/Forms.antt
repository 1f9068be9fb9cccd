-- The plan of a level whose fields have kinds of one form writes each value in one form.
use Rattle.std.proofs.Common.{◌≡◌, inl, inr, ℕ, suc, true, List, [], ◌∷◌, Option, Some, None, refl, sym, ◌∙◌, subst}
use Rattle.std.specs.Prelude.{◌==◌}
use Rattle.std.specs.List.{AllByRecursion}
use Rattle.sbe_types.specs.declared.kind.Kind.{Kind, Leaf, Enum, Set, Const, Comp', items-the_row-Member}
use Rattle.sbe_types.specs.declared.schema.DataField.{DataField}
use Rattle.sbe_types.specs.declared.schema.Field.{Field}
use Rattle.sbe_types.specs.declared.schema.Level.{Level, out-Level}
use Rattle.reference_graph.specs.Expansion.{Structure}
use Rattle.bridge_rules.specs.Datatypes.{Datatype, whole_number, decimal_number, character, text, boolean, timestamp, time_of_day, calendar_day, month_of_year, raw, code_set, character_set, unbridged}
use Rattle.bridge_rules.specs.Members.{and_then}
use Rattle.bridge_rules.specs.Rules.{Rule}
use Rattle.bridge_rules.specs.Table.{data_rule, rule_of}
use Rattle.bridge_rules.proofs.BoolLemmas.{either, if_false, if_true, true_false}
use Rattle.bridge_rules.proofs.OptionLemmas.{and_then_is, none_some, some_is}
use Rattle.bridge_rules.proofs.TableCases.{composite_cases, const_cases, enum_cases, leaf_cases, set_cases}
use Rattle.bridge_terms.specs.PlanFacts.{EachRule}
use Rattle.bridge_terms.specs.Plans.{Plan, Slot, in_data, in_fields}
use Rattle.bridge_plan.specs.Covers.{data_slot, field_slot, or_slot, plan_of, slot_of}
use Rattle.bridge_plan.specs.Mappings.{Mapping, datatype_of}
use Rattle.bridge_plan.specs.StructureFacts.{EachGroup}
use Rattle.bridge_plan.proofs.PlanParts.{Steps, plan_by}
use Rattle.back_texts.specs.Backs.{IsExact}
use Rattle.back_texts.specs.Forms.{has_one_form, HasOneForm, HaveOneForm, second_is_const}

-- ---- rules of the table

kind_exact : (k : Kind) (d : Datatype) (rule : Rule) → has_one_form k ≡ true → rule_of k d ≡ Some rule → IsExact rule
kind_exact (Leaf l) d rule one h =
    leaf_cases IsExact l (record { whole = λ is v. tt; decimal = λ is v. tt; day = λ is v. tt; char = λ is v. tt; array = λ is v. tt }) d rule h
kind_exact (Enum l names) d rule one h = enum_cases IsExact l names (record { code = λ list v. tt; number = λ list v. tt; truth = λ v. tt }) d rule h
kind_exact (Set p names) d rule one h = set_cases IsExact names (λ list v. tt) d rule h
kind_exact (Const c) d rule one h = const_cases IsExact (λ inner own repeats v. tt) c d rule h
kind_exact (Comp' n members) d rule one h =
    composite_cases (λ ks rule. second_is_const ks ≡ true → IsExact rule)
    (record {
      fixed = λ m e is k v. tt;
      floating = λ m e is its k. true_false k refl;
      counted = λ from time c u is its k v. tt;
      wired = λ from time unit is its k. true_false k refl;
      month = λ y m d w is its on in_week k. true_false k refl;
    })
    (items-the_row-Member _ members) d rule h one

data_exact : (part : DataField) (d : Datatype) (rule : Rule) → data_rule part d ≡ Some rule → IsExact rule
data_exact part raw rule h = subst IsExact (some_is h) (λ v. tt)
data_exact part text rule h = subst IsExact (some_is h) (λ v. tt)
data_exact part whole_number rule h = none_some h
data_exact part decimal_number rule h = none_some h
data_exact part character rule h = none_some h
data_exact part boolean rule h = none_some h
data_exact part timestamp rule h = none_some h
data_exact part time_of_day rule h = none_some h
data_exact part calendar_day rule h = none_some h
data_exact part month_of_year rule h = none_some h
data_exact part (code_set cs) rule h = none_some h
data_exact part (character_set cs) rule h = none_some h
data_exact part unbridged rule h = none_some h

-- ---- slots of a level

abbrev slot_by : ℕ → ℕ → Rule → Slot
slot_by tag i rule = record { tag = tag; place = in_fields i; rule = rule }

abbrev data_by : ℕ → ℕ → Rule → Slot
data_by tag i rule = record { tag = tag; place = in_data i; rule = rule }

field_exact : (m : Mapping) (tag i : ℕ) (fs : List Field) (slot : Slot) → AllByRecursion (λ (f : Field). has_one_form f.kind ≡ true) fs → field_slot m tag i fs ≡ Some slot → IsExact slot.rule
field_exact m tag i [] slot all h = none_some h
field_exact m tag i (f ∷ fs) slot all h = elim (either (f.id == tag)) [
  | inl t ↦
      let is = and_then_is (rule_of f.kind (datatype_of m tag)) (λ (rule : Rule). Some (slot_by tag i rule)) slot
      (sym (if_true (f.id == tag) (and_then (rule_of f.kind (datatype_of m tag)) (λ rule. Some (slot_by tag i rule))) (field_slot m tag (suc i) fs) t) ∙ h) in
      subst (λ (s : Slot). IsExact s.rule) (some_is is.2) (kind_exact f.kind (datatype_of m tag) is.0 all.0 is.1)
  | inr n ↦
      field_exact m tag (suc i) fs slot all.1
      (sym (if_false (f.id == tag) (and_then (rule_of f.kind (datatype_of m tag)) (λ rule. Some (slot_by tag i rule))) (field_slot m tag (suc i) fs) n) ∙ h)
]

part_exact : (m : Mapping) (tag i : ℕ) (ds : List DataField) (slot : Slot) → data_slot m tag i ds ≡ Some slot → IsExact slot.rule
part_exact m tag i [] slot h = none_some h
part_exact m tag i (d ∷ ds) slot h = elim (either (d.id == tag)) [
  | inl t ↦
      let is = and_then_is (data_rule d (datatype_of m tag)) (λ (rule : Rule). Some (data_by tag i rule)) slot
      (sym (if_true (d.id == tag) (and_then (data_rule d (datatype_of m tag)) (λ rule. Some (data_by tag i rule))) (data_slot m tag (suc i) ds) t) ∙ h) in
      subst (λ (s : Slot). IsExact s.rule) (some_is is.2) (data_exact d (datatype_of m tag) is.0 is.1)
  | inr n ↦
      part_exact m tag (suc i) ds slot
      (sym (if_false (d.id == tag) (and_then (data_rule d (datatype_of m tag)) (λ rule. Some (data_by tag i rule))) (data_slot m tag (suc i) ds) n) ∙ h)
]

slot_exact : (m : Mapping) (tag : ℕ) (level : Level) (slot : Slot) → HaveOneForm level → slot_of m tag level ≡ Some slot → IsExact slot.rule
slot_exact m tag level slot all h = by_field (field_slot m tag 0 (out-Level level).fields) refl h
  where
    by_field : (o : Option Slot) → field_slot m tag 0 (out-Level level).fields ≡ o → or_slot o (data_slot m tag 0 (out-Level level).parts) ≡ Some slot → IsExact slot.rule
    by_field (Some s) is k = field_exact m tag 0 (out-Level level).fields slot all (is ∙ k)
    by_field None is k = part_exact m tag 0 (out-Level level).parts slot k

-- ---- plans

abbrev IsExactFrom : Structure → Level → Plan → Type 0
IsExactFrom s level p = HaveOneForm level → EachRule IsExact p

exact_steps : (m : Mapping) → Steps m HasOneForm IsExactFrom
exact_steps m = record {
  at_end = λ level all. tt;
  no_slot = λ tag rest level p none more. more;
  a_slot = λ tag rest level p slot is more all. (slot_exact m tag level slot all is, more all);
  no_group = λ tag inner rest level p none more. more;
  a_group = λ tag inner rest level p found g is some own deeper more all. (deeper own, more all);
}

pub plan_exact : (m : Mapping) (s : Structure) (level : Level) → HaveOneForm level → EachGroup HasOneForm s level → EachRule IsExact (plan_of m s level)
plan_exact m s level all groups = plan_by m HasOneForm IsExactFrom (exact_steps m) s level groups all
