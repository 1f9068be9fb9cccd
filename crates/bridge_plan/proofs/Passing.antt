-- The fields of a covered message are application fields: none has a tag of the header or of a length field.
use Rattle.std.proofs.Common.{◌≡◌, inl, inr, ℕ, Bool, true, false, List, [], ◌∷◌, ◌++◌, map, Option, Some, None, Result, Ok, refl, sym, ap, ◌∙◌, subst}
use Rattle.std.specs.Prelude.{◌&&◌, ◌==◌, not}
use Rattle.std.proofs.lemmas.Bool.{eqb-true}
use Rattle.sbe_types.specs.declared.message.Value.{Value}
use Rattle.sbe_types.specs.declared.schema.Group.{Group}
use Rattle.sbe_types.specs.declared.schema.Level.{Level, out-Level}
use Rattle.tagvalue_codec.specs.Fields.{Field}
use Rattle.reference_graph.specs.Expansion.{Structure, ended, plain, counted}
use Rattle.bridge_rules.proofs.BoolLemmas.{true_false, either, second_of}
use Rattle.bridge_terms.specs.Plans.{Plan, Slot, Repeat, Place, Tree, Each, done, single, group, in_fields, in_data, all_tags, is_in}
use Rattle.bridge_terms.specs.Parts.{TagLists, is_application, application_fields, fields_in}
use Rattle.bridge_terms.specs.MessageFields.{message_parts, fields_of, with_lengths}
use Rattle.bridge_terms.proofs.Writing.{Among, fields_is, fields_among, each_more}
use Rattle.bridge_terms.proofs.Lengths.{kept_again, head_passed}
use Rattle.bridge_plan.specs.Mappings.{Mapping}
use Rattle.bridge_plan.specs.Covers.{length_tags, uncovered, slot_of, group_of, groups_in, level_in, repeat_of, plan_of}
use Rattle.bridge_plan.specs.StructureFacts.{IsDistinct}
use Rattle.bridge_plan.proofs.Planning.{Repeats, repeats, slot_tag, in_append}
use Rattle.bridge_plan.proofs.Covered.{IsCoveredEntry, covered_entries}
use Rattle.bridge_plan.proofs.PlanParts.{HasPlace, IsFree, Steps, slot_numbered, group_numbered, field_covered, data_covered, covered_level, plan_by}

-- each tag of the plan is free
abbrev AllFree : Mapping → Plan → Type 0
AllFree m p = (t : ℕ) → is_in t (all_tags p) ≡ true → IsFree m t

-- the same where the level is covered by some structure
abbrev IsFreePlan : Mapping → Structure → Level → Plan → Type 0
IsFreePlan m s level p = (whole : Structure) → uncovered m whole level ≡ None → AllFree m p

place_free : (m : Mapping) (whole : Structure) (level : Level) (tag : ℕ) → uncovered m whole level ≡ None → (place : Place) → HasPlace level tag place → IsFree m tag
place_free m whole level tag h (in_fields j) at = (field_covered m whole [] tag j 0 (out-Level level).fields (covered_level m whole level h).fields_are at).free
place_free m whole level tag h (in_data j) at =
    let covered = covered_level m whole level h in
    (data_covered m whole covered.last tag j 0 (out-Level level).parts covered.parts_are at).free

free_front : (m : Mapping) (tag : ℕ) (tags : List ℕ) → IsFree m tag → ((t : ℕ) → is_in t tags ≡ true → IsFree m t) → (t : ℕ) → is_in t (tag ∷ tags) ≡ true → IsFree m t
free_front m tag tags own more t h = elim (either (tag == t)) [
  | inl same ↦ subst (IsFree m) (eqb-true tag t same) own
  | inr f ↦ more t (second_of (tag == t) (is_in t tags) h f)
]

free_steps : (m : Mapping) → Steps m (IsCoveredEntry m) (IsFreePlan m)
free_steps m = record {
  at_end = λ level whole h t k. true_false k refl;
  no_slot = λ tag rest level p none more. more;
  a_slot = λ tag rest level p slot is more whole h.
      let own = place_free m whole level tag h slot.place (slot_numbered m tag level slot is).place in
      free_front m slot.tag (all_tags p) (subst (IsFree m) (sym (slot_tag m tag level slot is)) own) (more whole h);
  no_group = λ tag inner rest level p none more. more;
  a_group = λ tag inner rest level p found g is some own deeper more whole h.
      let free = ((covered_level m whole level h).groups_are tag found.0 (group_numbered tag 0 (groups_in level) found is)).free in
      let inside = plan_of m inner (level_in found.1) in
      free_front m g.tag (all_tags inside ++ all_tags p) (subst (IsFree m) (sym (repeats tag found.0 inner found.1 g some).tag_is) free)
      (λ t k. elim (in_append t (all_tags inside) (all_tags p) k) [
        | inl a ↦ deeper inner own.covered t a
        | inr b ↦ more whole h t b
      ]);
}

free_plan : (m : Mapping) (s : Structure) (level : Level) → IsDistinct s → uncovered m s level ≡ None → AllFree m (plan_of m s level)
free_plan m s level distinct h = plan_by m (IsCoveredEntry m) (IsFreePlan m) (free_steps m) s level (covered_entries m s level distinct h) s h

both_not : (a b : Bool) → a ≡ false → b ≡ false → not a && not b ≡ true
both_not a b p q = ap (λ a. not a && not b) p ∙ ap not q

application_all : (m : Mapping) (s : Structure) (level : Level) → IsDistinct s → uncovered m s level ≡ None → (t : Tree Value (plan_of m s level)) (fields : List Field) → fields_of (plan_of m s level) t ≡ Ok fields →
    Each (λ f. is_application m.lists f ≡ true) fields
application_all m s level distinct h t fields is =
    let p = plan_of m s level in
    let parts = fields_is (message_parts p t) fields is in
    let among : Among (all_tags p) fields = subst (Among (all_tags p)) (sym parts.2) (fields_among p t parts.0 parts.1) in
    each_more (λ f. is_in f.tag (all_tags p) ≡ true) (λ f. is_application m.lists f ≡ true)
    (λ f k. let free = free_plan m s level distinct h f.tag k in both_not (is_in f.tag m.lists.header) (is_in f.tag (length_tags m.lists)) free.0 free.1) fields among

-- The header's fields and length fields are passed over, and what is left are the fields of the message.
pub passed_over : (m : Mapping) (s : Structure) (level : Level) → IsDistinct s → uncovered m s level ≡ None → (head : List Field) → Each (λ f. is_in f.tag m.lists.header ≡ true) head →
    (t : Tree Value (plan_of m s level)) (fields : List Field) → fields_of (plan_of m s level) t ≡ Ok fields → application_fields m.lists (head ++ with_lengths m.lists fields) ≡ fields
passed_over m s level distinct h head headed t fields is =
    head_passed m.lists head (with_lengths m.lists fields) headed ∙ kept_again m.lists fields (application_all m s level distinct h t fields is)
