-- What is answered for a stream of texts without heads. Own profile.
use Rattle.std.specs.Prelude.{◌≡◌, ℕ, ◌-◌, true, List, [], length, codes, decimal, Some, Result, Ok, Err}
use Rattle.sbe_base.specs.declared.status.Limits.{Limits}
use Rattle.sbe_base.specs.declared.status.Status.{Status}
use Rattle.sbe_base.specs.declared.status.Status.TheVariants as status
use Rattle.sbe_base.specs.declared.stream.WriteFault.{WriteFault}
use Rattle.open_framing.specs.Frames.{frame}
use Rattle.open_framing.specs.declared.head.TheConstants.{HEAD_BYTES, TAG_VALUE}
use Rattle.tagvalue_codec.specs.declared.data_tags.Pair.{Pair}
use Rattle.refused_items.specs.Refused.{Refused as RefusedItem, refused_line}
use Rattle.command_steps.specs.Splits.{Reading, Others, Piece}
use Rattle.command_steps.specs.Replies.{Answering, no_line}
use Rattle.command_steps.specs.declared.kept.Kept.{Kept}
use Rattle.replies.specs.Reply.{Reply}
use Rattle.replies.specs.declared.verdict.Verdict.{Verdict}
use Rattle.replies.specs.declared.verdict.Verdict.TheVariants.{Answered, Refused}
use Rattle.raw_fix.specs.declared.code.PCode.{PCode}
use Rattle.raw_fix.specs.declared.code.PCode.TheVariants.{Prefix, Ends, Text}
use Rattle.raw_fix.specs.Fields.{fix_texts}
use Rattle.raw_fix.specs.Raw.{Texts, Kind, Message, Garbled, Item}
use Rattle.raw_reading.specs.Reading.{piece_of, raw_reading}
use Rattle.raw_reading.proofs.IsRawReading.{raw_is_reading}

-- ---- the reply

-- the code of garbled bytes
abbrev pub code_text : PCode → List ℕ
code_text Prefix = codes "P01"
code_text Ends = codes "P02"
code_text Text = codes "P03"

-- the refusal of this many garbled bytes at this offset of the input
abbrev pub garbled_at : PCode → ℕ → ℕ → RefusedItem
garbled_at code at many = record { code = code_text code; offset = Some at; path = []; detail = decimal many }

-- the reply with the frame of a text
abbrev pub framed : List ℕ → Reply
framed text = record { output = frame TAG_VALUE text; notes = []; verdict = Answered }

-- the reply that notes this many garbled bytes after those that are counted
abbrev pub noted : Kept → PCode → ℕ → Reply
noted kept code many = record { output = []; notes = refused_line kept.items (garbled_at code kept.bytes many); verdict = Refused }

-- the reply to bytes of a kind
abbrev pub reply_to : Kept → Kind → List ℕ → Reply
reply_to kept Message bytes = framed bytes
reply_to kept (Garbled code) bytes = noted kept code (length bytes)

-- The reply to an item of the stream.
abbrev pub IsRawReply : Kept → Piece → Reply → Type 0
IsRawReply kept piece reply = (item : Item) × (piece ≡ piece_of item) × (reply ≡ reply_to kept item.kind item.bytes)

-- the texts of a stream within limits
abbrev pub texts_in : List Pair → Limits → Texts
texts_in tags limits = fix_texts tags (limits.frame - HEAD_BYTES)

-- how a stream of texts is read
abbrev pub by_items : List Pair → Limits → Reading
by_items tags limits = Others (raw_reading (texts_in tags limits)) (raw_is_reading (texts_in tags limits)) limits.input

-- What is taken from the input and answered. It takes no memory.
abbrev pub by_texts : List Pair → Limits → Answering
by_texts tags limits = record { reading = by_items tags limits; IsReply = IsRawReply; spares = true; last = no_line }

-- the verdict on an item whose answer was written, or the status of a failed write
abbrev pub put_so : Result (Unit {0}) WriteFault → Verdict → Result Verdict Status
put_so (Ok done) verdict = Ok verdict
put_so (Err e) verdict = Err status.WriteFault
