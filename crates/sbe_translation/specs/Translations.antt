-- The message that a text is translated to, or why it has none. Own profile.
use Rattle.std.specs.Prelude.{◌≡◌, ◌⊎◌, ℕ, List, [], slice_get, Some, Result, Ok, Err, ⊤}
use Rattle.sbe_types.specs.declared.message.Msg.{Msg}
use Rattle.sbe_types.specs.declared.schema.Level.{Level, out-Level}
use Rattle.sbe_types.specs.declared.schema.WireSchema.{WireSchema}
use Rattle.tagvalue_codec.specs.Fields.{Field}
use Rattle.reference_graph.specs.Expansion.{Structure}
use Rattle.bridge_terms.specs.Parts.{application_fields}
use Rattle.bridge_terms.specs.WayBack.{back_refused}
use Rattle.bridge_plan.specs.CheckedLevels.{IsCovered}
use Rattle.bridge_plan.specs.Covers.{cover_of, covered_by, no_message, plan_of, templates_of, unmapped}
use Rattle.bridge_plan.specs.Mappings.{Mapping, structure_for}
use Rattle.bridge_plan.specs.Translation.{IsMessageOf}
use Rattle.message_plans.specs.Plans.{AreSeveral, IsOnly}
use Rattle.field_judge.specs.declared.refused.Refused.{Refused}
use Rattle.field_judge.specs.Refusals.{refusal_of}
use Rattle.sbe_translation.specs.declared.translate.ToSbeErr.{ToSbeErr}
use Rattle.sbe_translation.specs.declared.translate.ToSbeErr.TheVariants as why

-- a template, by its number, which alone has a MsgType, and the structure of the mapping that covers it
pub record IsMappedTo (m : Mapping) (levels : List Level) (kind : List ℕ) (i : ℕ) : Type 0 where
  pub only : IsOnly kind levels i
  pub structure : Structure
  pub mapped : structure_for m (out-Level only.level).semantic ≡ Some structure
  pub covered : IsCovered m structure only.level
  pub cover : cover_of m only.level ≡ covered_by (plan_of m structure only.level)

-- the message is that of the text's application fields, by the only template that has the MsgType
pub record IsMessage (m : Mapping) (schema : WireSchema) (kind : List ℕ) (fields : List Field) (message : Msg) : Type 0 where
  pub template : IsMappedTo m schema.messages kind message.template
  pub version : message.version ≡ schema.version
  pub block : IsMessageOf m template.structure template.only.level fields message.block

-- only one template has the MsgType, and the mapping has no message for it
pub record IsUnmapped (m : Mapping) (levels : List Level) (kind : List ℕ) : Type 0 where
  pub template : ℕ
  pub only : IsOnly kind levels template
  pub cover : cover_of m only.level ≡ no_message

-- only this one has it, and the mapping doesn't cover the part with this path
pub record IsUncovered (m : Mapping) (levels : List Level) (kind : List ℕ) (i : ℕ) (path : List (List ℕ)) : Type 0 where
  pub only : IsOnly kind levels i
  pub cover : cover_of m only.level ≡ unmapped path

-- the mapping covers it, and this is the first refusal of the text's application fields
pub record IsRefused (m : Mapping) (levels : List Level) (kind : List ℕ) (fields : List Field) (told : Refused) : Type 0 where
  pub number : ℕ
  pub template : IsMappedTo m levels kind number
  pub refused : back_refused (plan_of m template.structure template.only.level) (application_fields m.lists fields) ≡ Some (refusal_of told)

-- no template has it, or only one has it for which the mapping has no message
abbrev pub HasNoTemplate : Mapping → List Level → List ℕ → Type 0
HasNoTemplate m levels kind = (templates_of kind levels ≡ []) ⊎ IsUnmapped m levels kind

-- the answer for a text with this MsgType and these fields
abbrev pub IsAnswer : Mapping → WireSchema → List ℕ → List Field → Result Msg ToSbeErr → Type 0
IsAnswer m schema kind fields (Ok message) = IsMessage m schema kind fields message
IsAnswer m schema kind fields (Err why.NoTemplate) = HasNoTemplate m schema.messages kind
IsAnswer m schema kind fields (Err why.Several) = AreSeveral kind schema.messages
IsAnswer m schema kind fields (Err (why.Uncovered i path)) = IsUncovered m schema.messages kind i path.now
IsAnswer m schema kind fields (Err (why.Refused told)) = IsRefused m schema.messages kind fields told
IsAnswer m schema kind fields (Err why.Memory) = ⊤
