-- What a message is translated to by a mapping: a text, or why there is none. Own profile.
use Rattle.std.specs.Prelude.{◌≡◌, List, ℕ, [], Option, Some, None, Result, Ok, Err, slice_get}
use Rattle.sbe_types.specs.declared.message.Block.{Block}
use Rattle.sbe_types.specs.declared.schema.Level.{Level, out-Level}
use Rattle.reference_graph.specs.Expansion.{Structure}
use Rattle.tagvalue_codec.specs.Drafts.{Draft, IsValue, finished}
use Rattle.bridge_terms.specs.Blocks.{values_of}
use Rattle.bridge_terms.specs.Places.{Unsent, place_fields, places_of}
use Rattle.bridge_terms.specs.Plans.{Plan}
use Rattle.bridge_plan.specs.Covers.{Cover, covered_by, no_message, unmapped, cover_of}
use Rattle.bridge_plan.specs.Mappings.{Mapping, structure_for}
use Rattle.flyweight_view.specs.TypedBlocks.{TypedMessage}
use Rattle.message_walk.specs.Halts.{halt_of}
use Rattle.message_plans.specs.declared.plan.Plan.{Plan as Plans}
use Rattle.message_plans.specs.Plans.{ArePlans}
use Rattle.value_texts.specs.Rows.{Spells}
use Rattle.value_texts.specs.declared.row.ValueText.{ValueText}
use Rattle.fix_messages.specs.Heads.{Head}
use Rattle.fix_messages.specs.Texts.{message_text, text_refusal}
use Rattle.fix_translation.specs.declared.translate.ToFixErr.{ToFixErr}
use Rattle.fix_translation.specs.declared.translate.ToFixErr.TheVariants as why

-- the plans of templates whose rows write texts
abbrev pub TextPlans : Type 0
TextPlans = Plans ValueText

-- each MsgType of the mapping may be the value of a field
abbrev pub HasKinds : Mapping → Type 0
HasKinds m = (kind : List ℕ) (s : Structure) → structure_for m kind ≡ Some s → IsValue kind

-- the plans are those of the message's schema by such a mapping
pub record IsPlanned (plans : TextPlans) (seen : TypedMessage) : Type 0 where
  pub mapping : Mapping
  pub levels : List Level
  pub plans_are : ArePlans Spells mapping levels plans
  pub there : slice_get levels seen.message.template ≡ Some seen.level
  pub kinds : HasKinds mapping

-- a text by its first refusal: it is finished, or the refusal is reported and there is no text
abbrev pub IsTextSo : Option Unsent → List ℕ → Draft → Result (Unit {0}) ToFixErr → Type 0
IsTextSo None text new result = (result ≡ Ok tt) × (finished new ≡ text)
IsTextSo (Some u) text new result = (result ≡ Err (why.Unwritten (halt_of u))) × (finished new ≡ [])

-- the names of the path to the first part that isn't covered are reported
abbrev pub TellsUncovered : List (List ℕ) → Result (Unit {0}) ToFixErr → Type 0
TellsUncovered path (Ok done) = ⊥
TellsUncovered path (Err why.NoMessage) = ⊥
TellsUncovered path (Err (why.Uncovered names)) = names.now ≡ path
TellsUncovered path (Err (why.Unwritten h)) = ⊥

-- a message that is to be translated: by which mapping, its level and block, and the head of its text
pub record Request : Type 0 where
  pub mapping : Mapping
  pub level : Level
  pub block : Block
  pub head : Head

-- the request for the text of a message that was seen
abbrev pub request_of : Mapping → TypedMessage → Head → Request
request_of m seen head = record { mapping = m; level = seen.level; block = seen.message.block; head = head }

-- the text of a message of a template with this plan
abbrev pub IsPlanText : Plan → Request → Draft → Draft → Result (Unit {0}) ToFixErr → Type 0
IsPlanText p r old new result =
    let kind = (out-Level r.level).semantic in
    let all = places_of p (values_of p r.block) in
    IsTextSo (text_refusal r.mapping.lists old.limit kind r.head all) (message_text r.mapping.lists kind r.head (place_fields all.places)) new result

-- the same by what the mapping says of the template
abbrev pub IsTranslatedBy : Cover → Request → Draft → Draft → Result (Unit {0}) ToFixErr → Type 0
IsTranslatedBy (covered_by p) r old new result = IsPlanText p r old new result
IsTranslatedBy no_message r old new result = (result ≡ Err why.NoMessage) × (new ≡ old)
IsTranslatedBy (unmapped path) r old new result = TellsUncovered path result × (new ≡ old)

-- A message is translated to the text of its head and its fields, or the first refusal is reported: the mapping has no message for
-- its template, or doesn't cover all of it, or a place isn't written.
abbrev pub IsTranslated : Request → Draft → Draft → Result (Unit {0}) ToFixErr → Type 0
IsTranslated r old new result = IsTranslatedBy (cover_of r.mapping r.level) r old new result
