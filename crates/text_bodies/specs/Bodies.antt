-- The body of the message that a text is translated to. Own profile.
use Rattle.std.specs.Prelude.{◌≡◌, ℕ, List, slice_get, Some}
use Rattle.sbe_types.specs.declared.message.Msg.{Msg}
use Rattle.sbe_types.specs.declared.schema.Level.{Level, out-Level}
use Rattle.sbe_types.specs.declared.schema.WireSchema.{WireSchema}
use Rattle.sbe_wire.specs.Canonical.{canonical}
use Rattle.sbe_wire.specs.Fits.{Fits as FitsSchema}
use Rattle.tagvalue_codec.specs.declared.data_tags.Pair.{Pair}
use Rattle.tagvalue_codec.specs.Fields.{Field}
use Rattle.reference_graph.specs.Expansion.{Structure}
use Rattle.bridge_rules.specs.Rules.{Rule}
use Rattle.bridge_plan.specs.Covers.{plan_of}
use Rattle.bridge_plan.specs.Mappings.{Mapping}
use Rattle.bridge_plan.specs.Translation.{IsMessageOf}
use Rattle.message_walk.specs.Rows.{AreRows, Fits}
use Rattle.fix_messages.specs.declared.text.MessageRows.{MessageRows}
use Rattle.fix_messages.specs.Heads.{Head}
use Rattle.back_texts.specs.Backs.{IsHeadOf, IsReadAs, IsReadPlan}

-- what texts are read by: a mapping with its pairs of tags, and the structure and the level of a template
pub record Reading : Type 0 where
  pub m : Mapping
  pub s : Structure
  pub level : Level
  pub tags : List Pair

-- the MsgType of its texts
abbrev pub kind_read : Reading → List ℕ
kind_read r = (out-Level r.level).semantic

-- The rows are those of the plan of the template, whose texts can be read.
pub record IsPlannedBy {R : Type 0} (spells : R → Rule → Type 0) (schema : WireSchema) (template : ℕ) (own : MessageRows R) (r : Reading) : Type 0 where
  pub there : slice_get schema.messages template ≡ Some r.level
  pub kind : own.msg_type.now ≡ kind_read r
  pub rows : AreRows spells r.m.lists (plan_of r.m r.s r.level) own.rows.now
  pub fits : Fits (plan_of r.m r.s r.level) (out-Level r.level).fields (out-Level r.level).groups (out-Level r.level).parts
  pub plan : IsReadPlan r.tags r.m r.s r.level

-- the head is one that its texts may have
abbrev pub IsHeadFor : Head → Reading → Type 0
IsHeadFor head r = IsHeadOf r.tags r.m.lists (kind_read r) head

-- The bytes are a text, and the body is the canonical one of the message that the text is translated to, which fits the schema.
pub record IsBodyOfText (schema : WireSchema) (template : ℕ) (r : Reading) (text body : List ℕ) : Type 0 where
  pub fields : List Field
  pub read : IsReadAs r.tags (kind_read r) text fields
  pub message : Msg
  pub template_is : message.template ≡ template
  pub version : message.version ≡ schema.version
  pub is : IsMessageOf r.m r.s r.level fields message.block
  pub fits : FitsSchema schema message
  pub written : canonical schema message ≡ Some body
