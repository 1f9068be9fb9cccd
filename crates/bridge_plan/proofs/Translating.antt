-- Messages of covered templates and tag-value texts, there and back.
use Rattle.std.proofs.Common.{◌≡◌, ◌⊎◌, ℕ, List, Option, Some, None, Ok, Err, sym, ap, ◌∙◌, subst}
use Rattle.sbe_types.specs.declared.message.Block.{Block}
use Rattle.sbe_types.specs.declared.schema.Level.{Level}
use Rattle.tagvalue_codec.specs.Fields.{Field}
use Rattle.reference_graph.specs.Expansion.{Structure, counted}
use Rattle.bridge_rules.specs.Again.{HasText}
use Rattle.bridge_rules.specs.Sound.{IsSound, ShowsGood}
use Rattle.bridge_rules.specs.Items.{Item}
use Rattle.bridge_rules.specs.Members.{and_then}
use Rattle.bridge_terms.specs.Plans.{Tree}
use Rattle.bridge_terms.specs.PlanFacts.{EachRule, IsPlaced, IsRoot}
use Rattle.bridge_terms.specs.Parts.{application_fields}
use Rattle.bridge_terms.specs.Gathering.{items_of_fields, items_of, application_view, message_application_items, field_application_items}
use Rattle.bridge_terms.specs.MessageFields.{fields_of, no_text_at}
use Rattle.bridge_terms.specs.WayBack.{back_refused}
use Rattle.bridge_terms.specs.Blocks.{values_of, block_of, IsPlanOf, IsBackBlock}
use Rattle.fix_values.specs.declared.rule.V.TheVariants.{Range}
use Rattle.bridge_terms.proofs.WrittenAgain.{written_again}
use Rattle.bridge_terms.proofs.Turning.{back_from}
use Rattle.bridge_terms.proofs.Filling.{values_again}
use Rattle.bridge_terms.proofs.There.{same_items, there_and_back, good_back}
use Rattle.bridge_terms.proofs.Whole.{held_all, back_block, some_block, block_unrefused, one_back_block}
use Rattle.bridge_plan.specs.Mappings.{Mapping}
use Rattle.bridge_plan.specs.Covers.{plan_of}
use Rattle.bridge_plan.specs.CheckedLevels.{IsCovered}
use Rattle.bridge_plan.specs.Translation.{Values, Draft, whole_text, IsMessageOf, IsHead, IsTranslated, ComesBack, IsCanonicalBlock}
use Rattle.bridge_plan.proofs.Planning.{plan_root, placed}
use Rattle.bridge_plan.proofs.Covered.{covered_delimited}
use Rattle.bridge_plan.proofs.PlanParts.{plan_is_of}
use Rattle.bridge_plan.proofs.Counting.{counts_short}
use Rattle.bridge_plan.proofs.Passing.{passed_over}
use Rattle.bridge_plan.proofs.RulesKept.{plan_sound, plan_shown, plan_again}

pub covered_plan : (m : Mapping) (s : Structure) (level : Level) → IsCovered m s level → IsPlanOf level (plan_of m s level)
covered_plan m s level is = plan_is_of m s level is.distinct is.covered is.counts

pub covered_root : (m : Mapping) (s : Structure) (level : Level) → IsCovered m s level → IsRoot (plan_of m s level)
covered_root m s level is = plan_root m s level is.distinct (covered_delimited m s level is.distinct is.covered)

pub covered_placed : (m : Mapping) (s : Structure) (level : Level) → IsCovered m s level → IsPlaced (plan_of m s level)
covered_placed m s level is = placed (plan_of m s level) (covered_root m s level is).planned

pub covered_sound : (m : Mapping) (s : Structure) (level : Level) → IsCovered m s level → EachRule IsSound (plan_of m s level)
covered_sound m s level is = plan_sound m s level is.ordered

pub covered_shown : (m : Mapping) (s : Structure) (level : Level) → IsCovered m s level → EachRule ShowsGood (plan_of m s level)
covered_shown m s level is = plan_shown m s level is.ordered

pub covered_again : (m : Mapping) (s : Structure) (level : Level) → IsCovered m s level → EachRule HasText (plan_of m s level)
covered_again m s level is = plan_again m s level is.ordered

pub one_message : (m : Mapping) (s : Structure) (level : Level) (text : List Field) (b c : Block) → IsCovered m s level → IsMessageOf m s level text b → IsMessageOf m s level text c → b ≡ c
one_message m s level text b c is h k =
    one_back_block level (plan_of m s level) (covered_plan m s level is) (covered_sound m s level is) (application_fields m.lists text) b c h k

pub some_message : (m : Mapping) (s : Structure) (level : Level) (text : List Field) → IsCovered m s level → back_refused (plan_of m s level) (application_fields m.lists text) ≡ None →
    (b : Block) × IsMessageOf m s level text b
some_message m s level text is h =
    some_block level (plan_of m s level) (covered_plan m s level is) (covered_placed m s level is) (covered_sound m s level is) (application_fields m.lists text) h

pub message_unrefused : (m : Mapping) (s : Structure) (level : Level) (text : List Field) (b : Block) → IsCovered m s level → IsMessageOf m s level text b →
    back_refused (plan_of m s level) (application_fields m.lists text) ≡ None
message_unrefused m s level text b is h = block_unrefused level (plan_of m s level) (covered_sound m s level is) (application_fields m.lists text) b h

pub passed : (m : Mapping) (s : Structure) (level : Level) (draft : Draft) (values : Values m s level) → IsCovered m s level → IsHead m draft.head → fields_of (plan_of m s level) values ≡ Ok draft.fields →
    application_fields m.lists (whole_text m draft) ≡ draft.fields
passed m s level draft values is headed h = passed_over m s level is.distinct is.covered draft.head headed values draft.fields h

pub text_items : (m : Mapping) (s : Structure) (level : Level) (values : Values m s level) (draft : Draft) → IsTranslated m s level values draft →
    items_of_fields (plan_of m s level) (application_fields m.lists (whole_text m draft)) ≡ Some (items_of (plan_of m s level) values)
text_items m s level values draft is =
    ap (items_of_fields (plan_of m s level)) (passed m s level draft values is.covered is.headed is.written)
    ∙ same_items (plan_of m s level) (covered_root m s level is.covered) values is.shown is.counted draft.fields is.written

-- the block of values to which the text of a message is translated
pub comes_back : (m : Mapping) (s : Structure) (level : Level) (values : Values m s level) (draft : Draft) → ComesBack m s level values draft →
    (b : Block) × IsMessageOf m s level (whole_text m draft) b × (items_of (plan_of m s level) (values_of (plan_of m s level) b) ≡ items_of (plan_of m s level) values)
comes_back m s level values draft is =
    let p = plan_of m s level in
    let covered = is.there.covered in
    let plan = covered_plan m s level covered in
    let back = there_and_back p (covered_root m s level covered) (covered_sound m s level covered) values is.there.shown is.readable is.there.counted draft.fields is.there.written in
    let same = passed m s level draft values covered is.there.headed is.there.written in (
      block_of level p back.0,
      subst (λ fs. IsBackBlock level p fs (block_of level p back.0)) (sym same) (back_block level p plan draft.fields back.0 back.1),
      ap (items_of p) (values_again level p back.0 plan.separate plan.all_separate (held_all p plan.holds back.0 back.1.good)) ∙ back.2,
    )

-- a message of canonical values is the one of its text
pub canonical_back : (m : Mapping) (s : Structure) (level : Level) (block : Block) (draft : Draft) → IsCanonicalBlock m s level block draft →
    IsMessageOf m s level (whole_text m draft) block
canonical_back m s level block draft is =
    let p = plan_of m s level in
    let values = values_of p block in
    let same = passed m s level draft values is.covered is.headed is.written in
    let counts = counts_short m s level is.covered.counts values is.good in
    let read = good_back p (covered_root m s level is.covered) (covered_sound m s level is.covered) (covered_shown m s level is.covered) values is.good counts draft.fields is.written in
    subst (λ fs. IsBackBlock level p fs block) (sym same) (record { lengths = is.lengths; entries = is.entries; back = back_from p (covered_sound m s level is.covered) draft.fields values read })

-- the message of a text, written again
pub again_back : (m : Mapping) (s : Structure) (level : Level) (text : List Field) (b : Block) (draft : Draft) → IsCovered m s level → IsHead m draft.head → IsMessageOf m s level text b →
    fields_of (plan_of m s level) (values_of (plan_of m s level) b) ≡ Ok draft.fields → IsMessageOf m s level (whole_text m draft) b
again_back m s level text b draft is headed h written =
    canonical_back m s level b draft (record { covered = is; headed = headed; written = written; good = h.back.good; lengths = h.lengths; entries = h.entries })

pub again_items : (m : Mapping) (s : Structure) (level : Level) (text : List Field) (b : Block) (draft : Draft) → IsCovered m s level → IsHead m draft.head → IsMessageOf m s level text b →
    fields_of (plan_of m s level) (values_of (plan_of m s level) b) ≡ Ok draft.fields →
    items_of_fields (plan_of m s level) (application_fields m.lists (whole_text m draft)) ≡ items_of_fields (plan_of m s level) (application_fields m.lists text)
again_items m s level text b draft is headed h written = (again_back m s level text b draft is headed h written).back.same ∙ sym h.back.same

-- the message of a text has fields again
pub again_written : (m : Mapping) (s : Structure) (level : Level) (text : List Field) (b : Block) → IsCovered m s level → IsMessageOf m s level text b →
    ((fields : List Field) × (fields_of (plan_of m s level) (values_of (plan_of m s level) b) ≡ Ok fields)) ⊎ ((tag : ℕ) × (fields_of (plan_of m s level) (values_of (plan_of m s level) b) ≡ Err (no_text_at tag Range)))
again_written m s level text b is h =
    written_again (plan_of m s level) (covered_root m s level is).planned (covered_sound m s level is) (covered_shown m s level is) (covered_again m s level is) (application_fields m.lists text) (values_of (plan_of m s level) b) h.back

-- ---- items as applications see them

pub text_application : (m : Mapping) (s : Structure) (level : Level) (values : Values m s level) (draft : Draft) → IsTranslated m s level values draft →
    field_application_items (plan_of m s level) (application_fields m.lists (whole_text m draft)) ≡ Some (message_application_items (plan_of m s level) values)
text_application m s level values draft is =
    ap (λ (o : Option (Tree (Option Item) (plan_of m s level))). and_then o (λ t. Some (application_view (plan_of m s level) t))) (text_items m s level values draft is)

pub back_application : (m : Mapping) (s : Structure) (level : Level) (values : Values m s level) (draft : Draft) → ComesBack m s level values draft →
    (b : Block) × IsMessageOf m s level (whole_text m draft) b × (message_application_items (plan_of m s level) (values_of (plan_of m s level) b) ≡ message_application_items (plan_of m s level) values)
back_application m s level values draft is = let back = comes_back m s level values draft is in (back.0, back.1, ap (application_view (plan_of m s level)) back.2)

pub again_application : (m : Mapping) (s : Structure) (level : Level) (text : List Field) (b : Block) (draft : Draft) → IsCovered m s level → IsHead m draft.head → IsMessageOf m s level text b →
    fields_of (plan_of m s level) (values_of (plan_of m s level) b) ≡ Ok draft.fields →
    field_application_items (plan_of m s level) (application_fields m.lists (whole_text m draft)) ≡ field_application_items (plan_of m s level) (application_fields m.lists text)
again_application m s level text b draft is headed h written =
    ap (λ (o : Option (Tree (Option Item) (plan_of m s level))). and_then o (λ t. Some (application_view (plan_of m s level) t))) (again_items m s level text b draft is headed h written)
