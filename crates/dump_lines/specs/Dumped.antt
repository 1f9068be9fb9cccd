-- The answer to a frame. Own profile.
use Rattle.std.specs.Prelude.{◌≡◌, ◌≢◌, ℕ, ◌==◌, Bool, true, false, if◌then◌else◌, Some, Result, Ok, Err, List, [], ◌∷◌, ◌++◌, codes, decimal}
use Rattle.std.specs.List.{AllByRecursion}
use Rattle.sbe_base.specs.Objects.{Object}
use Rattle.sbe_base.specs.Writes.{WroteAll, WrotePart}
use Rattle.sbe_base.specs.declared.stream.WriteFault.{WriteFault}
use Rattle.sbe_types.specs.declared.kind.Order.{Order}
use Rattle.sbe_types.specs.declared.kind.Order.TheVariants.{Little, Big}
use Rattle.sbe_types.specs.declared.schema.WireSchema.{WireSchema}
use Rattle.sbe_types.specs.declared.message.Msg.{Msg}
use Rattle.sbe_wire.specs.Faults.{Fault, FirstFault}
use Rattle.sbe_wire.specs.Lays.{Lays}
use Rattle.sbe_wire.specs.Reading.{message_of}
use Rattle.open_framing.specs.Frames.{Item}
use Rattle.open_framing.specs.declared.head.TheConstants.{SBE_LITTLE, SBE_BIG}
use Rattle.schema_facts.specs.IsChecked.{IsChecked}
use Rattle.serde_json.specs.Written.{compact_text}
use Rattle.flyweight_view.specs.TypedBlocks.{TypedMessage}
use Rattle.tree_json.specs.Lines.{line_of, message_at}
use Rattle.dump_lines.specs.Chosen.{schema_for}
use Rattle.refused_items.specs.Refused.{refused_line, of_encoding}
use Rattle.dump_lines.specs.Refused.{of_fault, message_meant, IsWay}
use Rattle.dump_lines.specs.declared.schemas.Schemas.{Schemas}

-- the encoding type of frames whose messages have this byte order
abbrev pub encoding_of : Order → ℕ
encoding_of Little = SBE_LITTLE
encoding_of Big = SBE_BIG

-- ---- the line of a message

-- the line of a message that a view shows
abbrev pub view_line : TypedMessage → List ℕ
view_line seen = compact_text (message_at (Some seen.level) seen.message)

-- what precedes a message: its schema's id, if there are several schemas
abbrev pub before_message : List WireSchema → ℕ → List ℕ
before_message [] id = []
before_message (other ∷ more) id = codes "{\"schema\":" ++ (decimal id ++ codes ",\"message\":")

-- what follows a message
abbrev pub behind_message : List WireSchema → List ℕ
behind_message [] = codes "\n"
behind_message (other ∷ more) = codes "}\n"

-- the line of a message of one of the schemas
abbrev pub message_line : Schemas → WireSchema → Msg → List ℕ
message_line schemas schema m = before_message schemas.also schema.id ++ (line_of schema m ++ behind_message schemas.also)

-- ---- the answer

-- A frame with another encoding type than the schemas' is refused. Else the answer for the body is the line of the
-- message that it is, or the refusal of its first fault.
pub data IsDumped (schemas : Schemas) (number : ℕ) (item : Item) (line : List ℕ) (is_message : Bool) : Type 0 where
  other_encoding : item.encoding ≢ encoding_of schemas.first.order → line ≡ refused_line number (of_encoding item.encoding) → is_message ≡ false
      → IsDumped schemas number item line is_message
  a_message : item.encoding ≡ encoding_of schemas.first.order → (m : Msg) → Lays (schema_for schemas item.body) m item.body
      → line ≡ message_line schemas (schema_for schemas item.body) m → is_message ≡ true → IsDumped schemas number item line is_message
  a_fault : item.encoding ≡ encoding_of schemas.first.order → (fault : Fault) → FirstFault (schema_for schemas item.body) fault item.body
      → line ≡ refused_line number (of_fault (schema_for schemas item.body) item.body fault) → is_message ≡ false → IsDumped schemas number item line is_message

-- ---- the same by reading

-- a line, and whether it shows a message
pub record Answer : Type 0 where
  pub line : List ℕ
  pub is_message : Bool

-- the answer with the line of a refused item
abbrev pub refusal : List ℕ → Answer
refusal line = record { line = line; is_message = false }

-- the answer to a body by what is read of it
abbrev pub answer_by : Schemas → WireSchema → Item → ℕ → Result Msg Fault → Answer
answer_by schemas schema item number (Ok m) = record { line = message_line schemas schema m; is_message = true }
answer_by schemas schema item number (Err fault) = refusal (refused_line number (of_fault schema item.body fault))

-- the answer to a body of the right encoding type
abbrev pub body_answer : Schemas → WireSchema → Item → ℕ → Answer
body_answer schemas schema item number = answer_by schemas schema item number (message_of schema item.body)

-- the answer to a frame
abbrev pub dumped : Schemas → ℕ → Item → Answer
dumped schemas number item =
    if item.encoding == encoding_of schemas.first.order
    then body_answer schemas (schema_for schemas item.body) item number
    else refusal (refused_line number (of_encoding item.encoding))

-- the answer is written, or a prefix of it and a write failed
abbrev pub Answers : Answer → Object (List ℕ) → Object (List ℕ) → Result Bool WriteFault → Type 0
Answers answer old new (Ok is_message) = WroteAll old new answer.line × (is_message ≡ answer.is_message)
Answers answer old new (Err e) = WrotePart old new answer.line

-- the answer's line is printed, and whether it shows a message is reported
pub record PrintsAnswer (answer : Answer) (prints : List ℕ → Type 0) (is_message : Bool) : Type 0 where
  pub line : prints answer.line
  pub told : is_message ≡ answer.is_message

-- ---- schemas in order

-- each of the schemas is in order
abbrev pub AreInOrder : Schemas → Type 0
AreInOrder schemas = IsChecked schemas.first × AllByRecursion IsChecked schemas.also

-- ---- laws

-- the answer by reading is an answer to each frame
abbrev pub IsAnswered : Type 0
IsAnswered = (schemas : Schemas) (number : ℕ) (item : Item) → AreInOrder schemas → IsDumped schemas number item (dumped schemas number item).line (dumped schemas number item).is_message

-- a frame has at most one answer
abbrev pub IsAnsweredOnce : Type 0
IsAnsweredOnce =
    (schemas : Schemas) (number : ℕ) (item : Item) (x y : List ℕ) (p q : Bool) → AreInOrder schemas → IsDumped schemas number item x p → IsDumped schemas number item y q
    → (x ≡ y) × (p ≡ q)

-- the path of a first fault leads to a part of its message
abbrev pub FaultsHaveWays : Type 0
FaultsHaveWays = (schema : WireSchema) (fault : Fault) (body : List ℕ) → FirstFault schema fault body → IsWay schema (message_meant schema body) fault.path
