-- What `tosbe` replies to a frame. Own profile.
use Rattle.std.specs.Prelude.{◌≡◌, ◌≢◌, ℕ, List, [], ◌∷◌, slice_get, Option, Some, None}
use Rattle.sbe_types.specs.declared.message.Msg.{Msg}
use Rattle.sbe_types.specs.declared.schema.Level.{Level}
use Rattle.sbe_wire.specs.Misfit.{misfit}
use Rattle.open_framing.specs.Frames.{Item}
use Rattle.open_framing.specs.declared.head.TheConstants.{TAG_VALUE}
use Rattle.tagvalue_codec.specs.declared.read.FixFault.{FixFault}
use Rattle.tagvalue_codec.specs.Fields.{Field}
use Rattle.tagvalue_codec.specs.Texts.{FixText, IsFirstFault}
use Rattle.bridge_terms.specs.Blocks.{IsBackBlock}
use Rattle.bridge_terms.specs.Parts.{application_fields}
use Rattle.bridge_terms.specs.Plans.{Plan}
use Rattle.bridge_terms.specs.WayBack.{Refusal, back_refused}
use Rattle.bridge_plan.specs.Covers.{Cover, cover_of, covered_by, no_message, templates_of, unmapped}
use Rattle.refused_items.specs.Refused.{Refused as RefusedItem, refused_line, of_encoding}
use Rattle.replies.specs.Reply.{Reply}
use Rattle.command_steps.specs.declared.kept.Kept.{Kept}
use Rattle.fixcheck_command.specs.FixCheck.{noted, of_fault, type_of}
use Rattle.build_command.specs.Build.{body_limit, message_reply}
use Rattle.tofix_replies.specs.Unsent.{of_no_message, of_uncovered}
use Rattle.tosbe_command.specs.Bridges.{mapping_in, tags_in, BackBridge}
use Rattle.tosbe_command.specs.Unsent.{of_refusal, of_several}

-- the reply that notes why an item is refused
abbrev pub refused_so : ℕ → RefusedItem → Reply
refused_so number why = noted (refused_line number why)

-- the application fields of a text
abbrev pub own_fields : BackBridge → List Field → List Field
own_fields b fields = application_fields (mapping_in b).lists fields

-- the message of a text of these fields, by its template and the template's plan
pub record IsTextMessage (b : BackBridge) (level : Level) (p : Plan) (fields : List Field) (m : Msg) : Type 0 where
  pub there : slice_get b.schema.messages m.template ≡ Some level
  pub version : m.version ≡ b.schema.version
  pub block : IsBackBlock level p (own_fields b fields) m.block

-- A text whose fields are refused is refused as they are. Else the reply is the frame of its message, or that the frame
-- would have too many bytes.
abbrev pub RepliesByRefusal : BackBridge → ℕ → Level → Plan → List Field → Option Refusal → Reply → Type 0
RepliesByRefusal b number level p fields (Some refusal) reply = reply ≡ refused_so number (of_refusal refusal)
RepliesByRefusal b number level p fields None reply =
    (m : Msg) × IsTextMessage b level p fields m × (reply ≡ message_reply b.schema number m (misfit b.schema m (body_limit b.frame)))

-- A text is refused if the mapping has no message for its template, or doesn't cover all of it.
abbrev pub RepliesByCover : BackBridge → ℕ → Level → List Field → Cover → Reply → Type 0
RepliesByCover b number level fields (covered_by p) reply = RepliesByRefusal b number level p fields (back_refused p (own_fields b fields)) reply
RepliesByCover b number level fields no_message reply = reply ≡ refused_so number of_no_message
RepliesByCover b number level fields (unmapped path) reply = reply ≡ refused_so number (of_uncovered path)

-- A text is refused if no template has its MsgType, or if several have it.
abbrev pub RepliesByTemplates : BackBridge → ℕ → List Field → List Level → Reply → Type 0
RepliesByTemplates b number fields [] reply = reply ≡ refused_so number of_no_message
RepliesByTemplates b number fields (level ∷ []) reply = RepliesByCover b number level fields (cover_of (mapping_in b) level) reply
RepliesByTemplates b number fields (level ∷ other ∷ more) reply = reply ≡ refused_so number of_several

-- the reply to a text of these fields
abbrev pub IsTextReply : BackBridge → ℕ → List Field → Reply → Type 0
IsTextReply b number fields reply = RepliesByTemplates b number fields (templates_of (type_of fields) b.schema.messages) reply

-- A frame with another encoding type than that of tag-value texts is refused, and so is one whose body isn't a text, at
-- its first fault.
pub data IsItemReply (b : BackBridge) (number : ℕ) (item : Item) (reply : Reply) : Type 0 where
  other_encoding : item.encoding ≢ TAG_VALUE → reply ≡ refused_so number (of_encoding item.encoding) → IsItemReply b number item reply
  a_fault : item.encoding ≡ TAG_VALUE → (fault : FixFault) → IsFirstFault (tags_in b) item.body fault
      → reply ≡ refused_so number (of_fault fault) → IsItemReply b number item reply
  a_text : item.encoding ≡ TAG_VALUE → (fields : List Field) → FixText (tags_in b) fields item.body → IsTextReply b number fields reply
      → IsItemReply b number item reply

-- The reply of `tosbe` to a frame.
abbrev pub IsToSbeReply : BackBridge → Kept → Item → Reply → Type 0
IsToSbeReply b kept item reply = IsItemReply b kept.items item reply
