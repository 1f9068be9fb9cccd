-- The message of a text, by the plan of its template.
use Rattle.std.proofs.Common.{◌≡◌, ◌-◌, ℕ, List, [], length, slice_get, take, drop, None, Some, Ok, refl, sym, ap, ◌∙◌, subst}
use Rattle.sbe_types.specs.declared.message.Block.{Block}
use Rattle.sbe_types.specs.declared.message.Msg.{Msg}
use Rattle.sbe_types.specs.declared.message.Value.{Value}
use Rattle.sbe_types.specs.declared.schema.Level.{Level, out-Level}
use Rattle.sbe_types.specs.declared.schema.WireSchema.{WireSchema}
use Rattle.tagvalue_codec.specs.Fields.{Field, bytes_of}
use Rattle.tagvalue_codec.specs.Reading.{placed}
use Rattle.tagvalue_codec.specs.declared.table.FixField.{FixField}
use Rattle.app_fields.proofs.Values.{held}
use Rattle.bridge_rules.proofs.OptionLemmas.{some_is}
use Rattle.bridge_rules.specs.Sound.{IsSound}
use Rattle.bridge_terms.specs.Blocks.{values_of, AreHeld, IsBackBlock}
use Rattle.bridge_terms.specs.Gathering.{values_of_fields}
use Rattle.bridge_terms.specs.Parts.{application_fields}
use Rattle.bridge_terms.specs.PlanFacts.{EachRule}
use Rattle.bridge_terms.specs.Plans.{Plan, Tree}
use Rattle.bridge_terms.specs.WayBack.{back_refused, IsBack}
use Rattle.bridge_terms.proofs.Refusing.{unrefused_read}
use Rattle.bridge_terms.proofs.Turning.{back_from}
use Rattle.bridge_terms.proofs.Whole.{held_all}
use Rattle.bridge_plan.specs.Covers.{plan_of}
use Rattle.bridge_plan.specs.Mappings.{Mapping}
use Rattle.bridge_plan.proofs.Translating.{covered_plan, covered_placed, covered_sound}
use Rattle.message_plans.specs.Plans.{IsOnly}
use Rattle.field_judge.specs.Levels.{IsNumbered}
use Rattle.field_blocks.specs.Blocks.{IsBlockOf}
use Rattle.back_levels.specs.declared.level.BackTree.{BackTree}
use Rattle.sbe_translation.specs.Plans.{HasKind, IsTree}
use Rattle.sbe_translation.specs.Translations.{IsMappedTo}
use Rattle.sbe_translation.proofs.Planning.{covered_as}

-- ---- the MsgType

-- what the third field of the table shows is the MsgType
pub kind_is : (text : List ℕ) (table : List FixField) (fields : List Field) (kind : List ℕ) (x : FixField) → text ≡ bytes_of fields → table ≡ placed 0 fields → HasKind fields kind
    → slice_get table 2 ≡ Some x → take (x.to - x.from) (drop x.from text) ≡ kind
kind_is text table fields kind x text_is table_is is at =
    let own = held text [] fields 2 x text_is (ap (λ t. slice_get t 2) (sym table_is) ∙ at) in
    own.value ∙ ap (λ (f : Field). f.value) (some_is (sym own.there ∙ is.there)) ∙ is.value

-- ---- a covered template

module _ (m : Mapping) (level : Level) (tree : BackTree) (is : IsTree m level tree) where
  abbrev pub plan : Plan
  plan = plan_of m is.structure level

  pub plan_numbered : IsNumbered plan
  plan_numbered = record { placed = covered_placed m is.structure level is.covered; numbered = is.numbered }

  pub plan_sound : EachRule IsSound plan
  plan_sound = covered_sound m is.structure level is.covered

  -- fields that aren't refused have values
  pub values_there : (fields : List Field) → back_refused plan fields ≡ None → (t : Tree Value plan) × (values_of_fields plan fields ≡ Some t) × IsBack plan fields t × AreHeld plan t
  values_there fields none =
      let t = unrefused_read plan plan_numbered.placed fields none in
      let back = back_from plan plan_sound fields t.0 t.1 in
      (t.0, t.1, back, held_all plan (covered_plan m is.structure level is.covered).holds t.0 back.good)

  -- a block of these values is that of the message
  pub block_back : (own fields : List Field) (t : Tree Value plan) (block : Block) → own ≡ fields → IsBack plan own t → IsBlockOf level plan t block → IsBackBlock level plan fields block
  block_back own fields t block same back of = record {
    lengths = of.lengths;
    entries = of.entries;
    back = subst (λ fs. IsBack plan fs (values_of plan block)) same (subst (IsBack plan own) (sym of.values) back);
  }

abbrev pub mapped_to : (m : Mapping) (levels : List Level) (kind : List ℕ) (i : ℕ) (only : IsOnly kind levels i) (tree : BackTree) → IsTree m only.level tree → IsMappedTo m levels kind i
mapped_to m levels kind i only tree is = record {
  only = only;
  structure = is.structure;
  mapped = is.mapped;
  covered = is.covered;
  cover = covered_as m only.level is.structure is.mapped is.covered.covered;
}
