-- A message that `tofix` translates to a text, and what `tosbe` replies to that text. Own profile.
use Rattle.std.specs.Prelude.{◌≡◌, ◌+◌, ◌≤◌, ℕ, true, slice_get, Option, Some, List, [], ◌∷◌, ◌++◌, length}
use Rattle.sbe_types.specs.declared.message.Msg.{Msg}
use Rattle.sbe_types.specs.declared.message.Value.{Value}
use Rattle.sbe_types.specs.declared.schema.Level.{Level, out-Level}
use Rattle.sbe_wire.specs.Fits.{Fits}
use Rattle.sbe_wire.specs.Lays.{Lays}
use Rattle.sbe_wire.specs.Misfit.{misfit}
use Rattle.open_framing.specs.Frames.{Item}
use Rattle.open_framing.specs.declared.head.TheConstants.{HEAD_BYTES, TAG_VALUE}
use Rattle.tagvalue_codec.specs.declared.data_tags.Pair.{Pair}
use Rattle.tagvalue_codec.specs.declared.data_tags.Role.TheVariants.{Plain}
use Rattle.tagvalue_codec.specs.Fields.{Field}
use Rattle.tagvalue_codec.specs.Pairs.{role_of}
use Rattle.tagvalue_codec.specs.Texts.{most_between}
use Rattle.reference_graph.specs.Expansion.{Structure}
use Rattle.bridge_rules.specs.Items.{Item as ValueItem}
use Rattle.bridge_rules.specs.Sound.{IsReadable, IsShown}
use Rattle.bridge_terms.specs.Blocks.{values_of}
use Rattle.bridge_terms.specs.Gathering.{message_application_items}
use Rattle.bridge_terms.specs.MessageFields.{with_lengths}
use Rattle.bridge_terms.specs.Parts.{TagLists}
use Rattle.bridge_terms.specs.Places.{place_fields, places_of}
use Rattle.bridge_terms.specs.PlanFacts.{AreCounted, EachValue}
use Rattle.bridge_terms.specs.Plans.{Each, Plan, Tree, all_tags, is_in}
use Rattle.bridge_plan.specs.Covers.{plan_of, templates_of}
use Rattle.bridge_plan.specs.Mappings.{structure_for}
use Rattle.fix_messages.specs.Heads.{Head, IsHeadReady, given_fields}
use Rattle.fix_translation.specs.Translations.{HasKinds}
use Rattle.dump_lines.specs.Chosen.{schema_for}
use Rattle.replies.specs.Reply.{Reply}
use Rattle.build_command.specs.Build.{body_limit, message_reply}
use Rattle.tofix_replies.specs.ToFix.{Bridge, sent}
use Rattle.same_texts.specs.Follow.{AreTags}
use Rattle.same_texts.specs.Same.{IsClear}
use Rattle.tosbe_command.specs.Bridges.{BackBridge, IsBackBridge, mapping_in, tags_in}
use Rattle.tosbe_command.specs.ToSbe.{IsItemReply}

-- ---- what is asked

-- Both commands translate by one mapping, and what they are given was accepted: the schema, the mapping, the head of
-- texts, and the most bytes of a frame.
pub record AreOfOne (on : Bridge) (back : BackBridge) : Type 0 where
  pub mapping : on.mapping ≡ mapping_in back
  pub good : IsBackBridge back
  pub kinds : HasKinds (mapping_in back)
  pub ready : IsHeadReady on.head
  pub low : HEAD_BYTES ≤ on.frame
  pub high : on.frame ≤ 16_777_216

-- A message in the body of an item, of a template whose MsgType no other template has, and the structure that the
-- mapping has for it.
pub record IsOfMessage (on : Bridge) (back : BackBridge) (item : Item) (s : Structure) (level : Level) (m : Msg) : Type 0 where
  pub chosen : schema_for on.schemas item.body ≡ back.schema
  pub lies : Lays back.schema m item.body
  pub there : slice_get back.schema.messages m.template ≡ Some level
  pub only : templates_of (out-Level level).semantic back.schema.messages ≡ level ∷ []
  pub mapped : structure_for on.mapping (out-Level level).semantic ≡ Some s

-- The text of each value has the value's item and can be read; a value without a text may be missing; and each number
-- of entries is admitted.
pub record CanReturn (p : Plan) (t : Tree Value p) : Type 0 where
  pub shown : EachValue IsShown p t
  pub readable : EachValue IsReadable p t
  pub counted : AreCounted p t

-- the fields of a text between MsgType and CheckSum
abbrev pub fields_between : TagLists → Head → List Field → List Field
fields_between lists head fields = given_fields head ++ with_lengths lists fields

-- a field of the header that is neither a length field nor a data field
pub record IsGiven (tags : List Pair) (lists : TagLists) (f : Field) : Type 0 where
  pub header : is_in f.tag lists.header ≡ true
  pub plain : role_of tags f.tag ≡ Plain

-- The text may have these fields: the mapping's length fields belong to one data field each, and the tags of the plan
-- have one to nine digits; data of any bytes has a length field; the fields that are given for the head are of the
-- header, and neither length fields nor data fields; and there are few enough.
pub record MayFollow (on : Bridge) (back : BackBridge) (p : Plan) (head : Head) (fields : List Field) : Type 0 where
  pub tags : AreTags (tags_in back) (all_tags p)
  pub clear : IsClear on.mapping.lists p
  pub given : Each (IsGiven (tags_in back) on.mapping.lists) (given_fields head)
  pub few : length (fields_between on.mapping.lists head fields) ≤ most_between

-- the plan of a template by the structure that covers it
abbrev pub plan_by : Bridge → Structure → Level → Plan
plan_by on s level = plan_of on.mapping s level

-- the values of a message in the order of the structure
abbrev pub values_by : (on : Bridge) (s : Structure) (level : Level) → Msg → Tree Value (plan_by on s level)
values_by on s level m = values_of (plan_by on s level) m.block

-- the application items of a message
abbrev pub items_by : (on : Bridge) (s : Structure) (level : Level) → Msg → Tree (Option ValueItem) (plan_by on s level)
items_by on s level m = message_application_items (plan_by on s level) (values_by on s level m)

-- the fields of a message, in the order of the structure
abbrev pub fields_by : (on : Bridge) (s : Structure) (level : Level) → Msg → List Field
fields_by on s level m = place_fields (places_of (plan_by on s level) (values_by on s level m)).places

-- ---- what comes back

-- the item of a frame with a text
abbrev pub text_item : List ℕ → Item
text_item text = record { encoding = TAG_VALUE; body = text }

-- The reply is the one to a message with these application items, which fits the schema: its frame, or that the frame
-- has too many bytes.
pub record IsReplyWith (back : BackBridge) (number : ℕ) (p : Plan) (items : Tree (Option ValueItem) p) (reply : Reply) : Type 0 where
  pub message : Msg
  pub fits : Fits back.schema message
  pub items_are : message_application_items p (values_of p message.block) ≡ items
  pub is : reply ≡ message_reply back.schema number message (misfit back.schema message (body_limit back.frame))

-- The reply of `tofix` is the frame of a text within the limit, and each reply of `tosbe` to that text has these items.
pub record IsReturned (on : Bridge) (back : BackBridge) (p : Plan) (items : Tree (Option ValueItem) p) (reply : Reply) : Type 0 where
  pub text : List ℕ
  pub is : reply ≡ sent text
  pub short : length text + HEAD_BYTES ≤ on.frame
  pub replied : (number : ℕ) (answer : Reply) → IsItemReply back number (text_item text) answer → IsReplyWith back number p items answer
