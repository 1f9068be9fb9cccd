-- The answer of `tofix` to one frame. Own profile.
use Rattle.std.specs.Prelude.{◌≡◌, ◌≢◌, ℕ, ◌+◌, ◌-◌, min, Option, Some, None, List, [], slice_get}
use Rattle.std.specs.Option.{option_map}
use Rattle.sbe_types.specs.declared.message.Block.{Block}
use Rattle.sbe_types.specs.declared.message.Msg.{Msg}
use Rattle.sbe_types.specs.declared.schema.Level.{Level, out-Level}
use Rattle.sbe_wire.specs.Faults.{Fault, FirstFault}
use Rattle.sbe_wire.specs.Lays.{Lays}
use Rattle.open_framing.specs.Frames.{Item, frame}
use Rattle.open_framing.specs.declared.head.TheConstants.{HEAD_BYTES, TAG_VALUE}
use Rattle.bridge_terms.specs.Blocks.{values_of}
use Rattle.bridge_terms.specs.Places.{Places, Unsent, places_of, place_fields}
use Rattle.bridge_terms.specs.Plans.{Plan}
use Rattle.bridge_plan.specs.Covers.{Cover, covered_by, no_message, unmapped, cover_of}
use Rattle.bridge_plan.specs.Mappings.{Mapping}
use Rattle.fix_messages.specs.Heads.{Head}
use Rattle.fix_messages.specs.Texts.{message_text, text_refusal}
use Rattle.dump_lines.specs.Chosen.{schema_for}
use Rattle.dump_lines.specs.Dumped.{encoding_of}
use Rattle.dump_lines.specs.Refused.{of_fault}
use Rattle.dump_lines.specs.declared.schemas.Schemas.{Schemas}
use Rattle.refused_items.specs.Refused.{refused_line, of_encoding}
use Rattle.command_steps.specs.declared.kept.Kept.{Kept}
use Rattle.replies.specs.Reply.{Reply}
use Rattle.replies.specs.declared.verdict.Verdict.TheVariants.{Refused, Translated}
use Rattle.tofix_replies.specs.declared.given.GivenHead.{GivenHead}
use Rattle.tofix_replies.specs.Unsent.{of_no_message, of_uncovered, of_unsent}

-- a mapping, and the schemas whose messages are translated by it; the head of the first text, and the most bytes of a
-- frame
pub record Bridge : Type 0 where
  pub schemas : Schemas
  pub mapping : Mapping
  pub head : Head
  pub frame : ℕ

-- the most bytes of a text in a frame of `frame` bytes
abbrev pub text_limit : ℕ → ℕ
text_limit frame = frame - HEAD_BYTES

-- the head that is given
abbrev pub given_head : GivenHead → Head
given_head head = record { begin = head.begin; sender = head.sender; target = head.target; seq = head.seq; time = head.time }

-- the sequence number of the text after `translated` others; it stays at the largest number of 64 bits
abbrev pub number_after : ℕ → ℕ → ℕ
number_after translated first = min (first + translated) 18446744073709551615

-- the head of the text after `translated` others
abbrev pub head_after : ℕ → Head → Head
head_after translated head =
    record { begin = head.begin; sender = head.sender; target = head.target; seq = option_map (number_after translated) head.seq; time = head.time }

-- the reply that notes a refused item
abbrev pub noted : List ℕ → Reply
noted line = record { output = []; notes = line; verdict = Refused }

-- the reply with the frame of a text
abbrev pub sent : List ℕ → Reply
sent text = record { output = frame TAG_VALUE text; notes = []; verdict = Translated }

-- the reply by the first refusal of a text
abbrev pub text_reply : ℕ → Level → Plan → List ℕ → Option Unsent → Reply
text_reply number level p text None = sent text
text_reply number level p text (Some u) = noted (refused_line number (of_unsent level p u))

-- the reply to a message of a template with this plan
abbrev pub covered_reply : Bridge → Kept → Level → Plan → Places → Reply
covered_reply b kept level p all =
    let kind = (out-Level level).semantic in
    let head = head_after kept.translated b.head in
    text_reply kept.items level p (message_text b.mapping.lists kind head (place_fields all.places))
    (text_refusal b.mapping.lists (text_limit b.frame) kind head all)

-- the reply to a message by whether the mapping covers its template
abbrev pub cover_reply : Bridge → Kept → Level → Block → Cover → Reply
cover_reply b kept level block (covered_by p) = covered_reply b kept level p (places_of p (values_of p block))
cover_reply b kept level block no_message = noted (refused_line kept.items of_no_message)
cover_reply b kept level block (unmapped path) = noted (refused_line kept.items (of_uncovered path))

-- A frame with another encoding type than the schemas' is refused, and so is one whose body isn't a message, at its
-- first fault. A message is refused if the mapping has no message for its template, or doesn't cover all of it, or at
-- the first place that isn't written. Else its text is sent.
pub data IsToFixReply (b : Bridge) (kept : Kept) (item : Item) (reply : Reply) : Type 0 where
  other_encoding : item.encoding ≢ encoding_of b.schemas.first.order → reply ≡ noted (refused_line kept.items (of_encoding item.encoding))
      → IsToFixReply b kept item reply
  a_fault : item.encoding ≡ encoding_of b.schemas.first.order → (fault : Fault) → FirstFault (schema_for b.schemas item.body) fault item.body
      → reply ≡ noted (refused_line kept.items (of_fault (schema_for b.schemas item.body) item.body fault)) → IsToFixReply b kept item reply
  a_message : item.encoding ≡ encoding_of b.schemas.first.order → (m : Msg) → Lays (schema_for b.schemas item.body) m item.body
      → (level : Level) → slice_get (schema_for b.schemas item.body).messages m.template ≡ Some level
      → reply ≡ cover_reply b kept level m.block (cover_of b.mapping level) → IsToFixReply b kept item reply
