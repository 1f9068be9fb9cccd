-- What `build` answers for one line. Own profile.
use Rattle.std.specs.Prelude.{◌≡◌, ◌≢◌, ◌<◌, ℕ, ◌-◌, ◌^◌, ⊤, ℤ, pos, ◌+ℤ◌, Option, Some, None, Result, Ok, Err, List, [], ◌∷◌, ◌++◌, codes, unwrap_or}
use Rattle.std.specs.Fmt.{signed_decimal}
use Rattle.sbe_types.specs.declared.schema.WireSchema.{WireSchema}
use Rattle.sbe_types.specs.declared.message.Msg.{Msg}
use Rattle.sbe_wire.specs.Misfit.{Misfit, misfit}
use Rattle.sbe_wire.specs.Canonical.{canonical}
use Rattle.sbe_wire.specs.declared.codes.NCode.{NCode}
use Rattle.sbe_wire.specs.declared.codes.NCode.TheVariants as unfit
use Rattle.open_framing.specs.declared.head.TheConstants.{HEAD_BYTES}
use Rattle.open_framing.specs.Frames.{frame}
use Rattle.layout_tables.specs.Paths.{path_text}
use Rattle.json_values.specs.Values.{text_data}
use Rattle.json_values.specs.Plain.{plain_text}
use Rattle.line_values.specs.Refusals.{Refusal}
use Rattle.line_reading.specs.Lines.{tree_of}
use Rattle.line_values.specs.declared.refusals.JCode.{JCode}
use Rattle.line_values.specs.declared.refusals.JCode.TheVariants as unread
use Rattle.dump_lines.specs.Dumped.{encoding_of}
use Rattle.refused_items.specs.Refused.{Refused as RefusedItem, refused_line, front_text}
use Rattle.replies.specs.Reply.{Reply}
use Rattle.replies.specs.declared.verdict.Verdict.TheVariants.{Answered, Refused}

-- ---- a line that isn't a message

-- the code of why a line isn't a message
abbrev pub line_code : JCode → List ℕ
line_code unread.NotJson = codes "J01"
line_code unread.Shape = codes "J02"
line_code unread.UnknownName = codes "J03"
line_code unread.Kind = codes "J04"

-- the line of an item whose line isn't a message; its place may be a key of the line, and is printed as a text
abbrev pub unread_line : ℕ → Refusal → List ℕ
unread_line item why = front_text item (line_code why.code) None ++ (plain_text (text_data why.place) ++ codes ",\"detail\":\"\"}\n")

-- ---- a message that can't be written

-- the code of why a message can't be written
abbrev pub misfit_code : NCode → List ℕ
misfit_code unfit.Range = codes "N01"
misfit_code unfit.EnumUnknown = codes "N02"
misfit_code unfit.SetUnknown = codes "N03"
misfit_code unfit.TextByte = codes "N04"
misfit_code unfit.Kind = codes "N05"
misfit_code unfit.Count = codes "N06"
misfit_code unfit.Length = codes "N07"
misfit_code unfit.Full = codes "N08"
misfit_code unfit.Shape = codes "N09"

-- the detail of a misfit: its number, if it has one; the number of bytes needed counts the head of the frame too
abbrev pub misfit_detail : NCode → ℤ → List ℕ
misfit_detail unfit.Range n = signed_decimal n
misfit_detail unfit.EnumUnknown n = signed_decimal n
misfit_detail unfit.SetUnknown n = signed_decimal n
misfit_detail unfit.TextByte n = signed_decimal n
misfit_detail unfit.Kind n = []
misfit_detail unfit.Count n = signed_decimal n
misfit_detail unfit.Length n = signed_decimal n
misfit_detail unfit.Full n = signed_decimal (n +ℤ pos HEAD_BYTES)
misfit_detail unfit.Shape n = []

-- the number of bytes needed is small enough that the bytes of the head can be added
abbrev pub LeavesRoom : NCode → ℤ → Type 0
LeavesRoom unfit.Range n = ⊤
LeavesRoom unfit.EnumUnknown n = ⊤
LeavesRoom unfit.SetUnknown n = ⊤
LeavesRoom unfit.TextByte n = ⊤
LeavesRoom unfit.Kind n = ⊤
LeavesRoom unfit.Count n = ⊤
LeavesRoom unfit.Length n = ⊤
LeavesRoom unfit.Full n = (bytes : ℕ) × (n ≡ pos bytes) × (bytes < 2 ^ 65)
LeavesRoom unfit.Shape n = ⊤

-- why a message of this template can't be written
abbrev pub of_misfit : WireSchema → ℕ → Misfit → RefusedItem
of_misfit schema template why =
    record { code = misfit_code why.code; offset = None; path = path_text schema template why.path; detail = misfit_detail why.code why.detail }

-- ---- the answer

-- the reply that writes nothing
abbrev pub no_reply : Reply
no_reply = record { output = []; notes = []; verdict = Answered }

-- the reply that notes a refused item
abbrev pub refused_reply : List ℕ → Reply
refused_reply line = record { output = []; notes = line; verdict = Refused }

-- the reply with a frame
abbrev pub frame_reply : WireSchema → List ℕ → Reply
frame_reply schema body = record { output = frame (encoding_of schema.order) body; notes = []; verdict = Answered }

-- the most bytes of a body in frames of at most `limit` bytes
abbrev pub body_limit : ℕ → ℕ
body_limit limit = limit - HEAD_BYTES

-- A line without bytes is not answered. A line that isn't a message is refused, and so is a message that can't be
-- written in a frame of at most `limit` bytes. Else the answer is the frame of the canonical body.
pub data IsBuilt (schema : WireSchema) (limit item : ℕ) (line : List ℕ) (reply : Reply) : Type 0 where
  no_bytes : line ≡ [] → reply ≡ no_reply → IsBuilt schema limit item line reply
  no_message : line ≢ [] → (why : Refusal) → tree_of schema line ≡ Err why → reply ≡ refused_reply (unread_line item why) → IsBuilt schema limit item line reply
  no_room : line ≢ [] → (m : Msg) → tree_of schema line ≡ Ok m → (why : Misfit) → misfit schema m (body_limit limit) ≡ Some why
      → reply ≡ refused_reply (refused_line item (of_misfit schema m.template why)) → IsBuilt schema limit item line reply
  a_frame : line ≢ [] → (m : Msg) → tree_of schema line ≡ Ok m → misfit schema m (body_limit limit) ≡ None → (body : List ℕ) → canonical schema m ≡ Some body
      → reply ≡ frame_reply schema body → IsBuilt schema limit item line reply

-- ---- the same by reading

-- the answer to a message, by its first misfit
abbrev pub message_reply : WireSchema → ℕ → Msg → Option Misfit → Reply
message_reply schema item m None = frame_reply schema (unwrap_or (canonical schema m) [])
message_reply schema item m (Some why) = refused_reply (refused_line item (of_misfit schema m.template why))

-- the answer to a line by what is read of it
abbrev pub read_reply : WireSchema → ℕ → ℕ → Result Msg Refusal → Reply
read_reply schema limit item (Ok m) = message_reply schema item m (misfit schema m (body_limit limit))
read_reply schema limit item (Err why) = refused_reply (unread_line item why)

-- the answer to a line
abbrev pub built_reply : WireSchema → ℕ → ℕ → List ℕ → Reply
built_reply schema limit item [] = no_reply
built_reply schema limit item (b ∷ line) = read_reply schema limit item (tree_of schema (b ∷ line))
