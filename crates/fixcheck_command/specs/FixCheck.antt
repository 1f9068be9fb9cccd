-- The command `fixcheck`: what its file contains or why it is refused, and its reply to a frame. Own profile.
use Rattle.std.specs.Prelude.{◌≡◌, ◌≢◌, ◌<◌, ◌≤◌, ℕ, List, [], ◌∷◌, ◌++◌, codes, decimal, length, slice_get, Option, Some, Result, Ok, Err, ⊤}
use Rattle.json_values.specs.Plain.{plain_text}
use Rattle.json_values.specs.Values.{text_data}
use Rattle.sbe_base.specs.declared.status.Status.{Status}
use Rattle.sbe_base.specs.declared.status.Status.TheVariants as status
use Rattle.sbe_base.specs.declared.stream.WriteFault.{WriteFault}
use Rattle.open_framing.specs.Frames.{Item}
use Rattle.open_framing.specs.declared.head.TheConstants.{TAG_VALUE}
use Rattle.tagvalue_codec.specs.declared.data_tags.Pair.{Pair}
use Rattle.tagvalue_codec.specs.declared.table.FixField.{FixField}
use Rattle.tagvalue_codec.specs.declared.read.TCode.{TCode}
use Rattle.tagvalue_codec.specs.declared.read.TCode.TheVariants.{FirstTag, BodyLength, LengthWrong, MsgType, CheckSum, Field as NoField, DataLength, TooMany}
use Rattle.tagvalue_codec.specs.declared.read.FixFault.{FixFault}
use Rattle.tagvalue_codec.specs.Fields.{Field}
use Rattle.tagvalue_codec.specs.Texts.{FixText, IsFirstFault, three_digits}
use Rattle.map_types.specs.declared.tree.Repository.{Repository}
use Rattle.map_types.specs.Trees.{members_of}
use Rattle.orchestra_map.specs.DataFields.{pairs_of}
use Rattle.refused_items.specs.Refused.{Refused as RefusedItem, refused_line, of_encoding}
use Rattle.schema_files.specs.declared.files.FileRole.TheVariants as role
use Rattle.schema_files.specs.declared.files.RefusedFile.{RefusedFile}
use Rattle.map_files.specs.Maps.{file_map, IsMap}
use Rattle.command_files.specs.Files.{FilesOf, in_role}
use Rattle.command_steps.specs.declared.kept.Kept.{Kept}
use Rattle.replies.specs.Reply.{Reply}
use Rattle.replies.specs.declared.verdict.Verdict.{Verdict}
use Rattle.replies.specs.declared.verdict.Verdict.TheVariants.{Answered, Refused}

-- ---- the line of a text

-- the value of the third field of a text, which is the field 35
abbrev pub type_of : List Field → List ℕ
type_of [] = []
type_of (begin ∷ []) = []
type_of (begin ∷ size ∷ []) = []
type_of (begin ∷ size ∷ kind ∷ others) = kind.value

-- The line of an item that is a text of this type with this many fields.
abbrev pub text_line : ℕ → List ℕ → ℕ → List ℕ
text_line item kind fields =
    codes "{\"item\":" ++ (decimal item ++ (codes ",\"type\":" ++ (plain_text (text_data kind) ++ (codes ",\"fields\":" ++ (decimal fields ++ codes "}\n")))))

-- ---- a body that isn't a text

-- the code of a fault
abbrev pub fault_code : TCode → List ℕ
fault_code FirstTag = codes "T01"
fault_code BodyLength = codes "T02"
fault_code LengthWrong = codes "T03"
fault_code MsgType = codes "T04"
fault_code CheckSum = codes "T05"
fault_code NoField = codes "T06"
fault_code DataLength = codes "T07"
fault_code TooMany = codes "T08"

-- the detail of a fault: the right number of bytes, the right sum in three digits, or nothing
abbrev pub fault_detail : TCode → ℕ → List ℕ
fault_detail FirstTag n = []
fault_detail BodyLength n = []
fault_detail LengthWrong n = decimal n
fault_detail MsgType n = []
fault_detail CheckSum n = three_digits n
fault_detail NoField n = []
fault_detail DataLength n = []
fault_detail TooMany n = []

-- the refusal of a fault of a body
abbrev pub of_fault : FixFault → RefusedItem
of_fault fault = record { code = fault_code fault.code; offset = Some fault.offset; path = []; detail = fault_detail fault.code fault.detail }

-- the sum that a fault reports has three digits
abbrev pub HasDigits : TCode → ℕ → Type 0
HasDigits code detail = code ≡ CheckSum → detail < 1000

-- ---- the reply

-- the reply with a line of the output
abbrev pub answered : List ℕ → Reply
answered line = record { output = line; notes = []; verdict = Answered }

-- the reply with a line of the notes
abbrev pub noted : List ℕ → Reply
noted line = record { output = []; notes = line; verdict = Refused }

-- A frame with another encoding type than that of tag-value texts is refused. Else the answer for its body is a line if
-- it is a text of some fields, or the refusal of its first fault.
pub data IsTextReply (tags : List Pair) (number : ℕ) (item : Item) (reply : Reply) : Type 0 where
  other_encoding : item.encoding ≢ TAG_VALUE → reply ≡ noted (refused_line number (of_encoding item.encoding)) → IsTextReply tags number item reply
  a_text : item.encoding ≡ TAG_VALUE → (fields : List Field) → FixText tags fields item.body
      → reply ≡ answered (text_line number (type_of fields) (length fields)) → IsTextReply tags number item reply
  a_fault : item.encoding ≡ TAG_VALUE → (fault : FixFault) → IsFirstFault tags item.body fault
      → reply ≡ noted (refused_line number (of_fault fault)) → IsTextReply tags number item reply

-- The reply of `fixcheck` to a frame.
abbrev pub IsFixCheckReply : List Pair → Kept → Item → Reply → Type 0
IsFixCheckReply tags kept item reply = IsTextReply tags kept.items item reply

-- the verdict on an item whose line was written, or the status of a failed write
abbrev pub put_so : Result (Unit {0}) WriteFault → Verdict → Result Verdict Status
put_so (Ok done) verdict = Ok verdict
put_so (Err e) verdict = Err status.WriteFault

-- the table has the type of the text, within the text
abbrev pub HoldsType : List ℕ → List FixField → Type 0
HoldsType text table = (field : FixField) × (slice_get table 2 ≡ Some field) × (field.from ≤ field.to) × (field.to ≤ length text)

-- ---- the file

-- the length tags and data tags of a mapping
abbrev pub tags_check : Result Repository RefusedFile → Result (List Pair) RefusedFile
tags_check (Ok repository) = Ok (pairs_of (members_of repository))
tags_check (Err file) = Err file

-- the file with this name contains this, or is refused
abbrev pub JudgesTags : List ℕ → (List ℕ → Option (List ℕ)) → Result (List Pair) RefusedFile → Type 0
JudgesTags name contents judged = judged ≡ tags_check (in_role role.Map (file_map (contents name)))

-- The files of `fixcheck`: only the mapping.
abbrev pub fixcheck_files : List ℕ → FilesOf (List Pair)
fixcheck_files name = record { AreJudged = JudgesTags name; IsRole = IsMap; AreGood = λ tags. ⊤ }
