-- What is answered when the line of a body is asked for.
use Rattle.std.specs.Prelude.{◌≡◌, ◌<◌, ◌≤◌, ℕ, List, length, slice_get, Option, Some, None, ⊤}
use Rattle.sbe_types.specs.declared.schema.Level.{Level}
use Rattle.sbe_types.specs.declared.schema.WireSchema.{WireSchema}
use Rattle.sbe_types.specs.declared.message.Msg.{Msg}
use Rattle.sbe_wire.specs.Faults.{Fault, FirstFault}
use Rattle.sbe_wire.specs.Lays.{Lays}
use Rattle.body_walk.specs.Refusals.{refused}
use Rattle.serde_json.specs.Written.{compact_text}
use Rattle.tree_json.specs.Lines.{message_at}
use Rattle.sbe_c.specs.declared.answers.Answer.{Answer}
use Rattle.sbe_c.specs.declared.answers.Answer.TheVariants as answer
use Rattle.sbe_c.specs.declared.answers.Report.{Report}
use Rattle.sbe_c.specs.declared.dumping.DumpErr.{DumpErr}
use Rattle.sbe_c.specs.declared.dumping.DumpErr.TheVariants.{Refused, Memory}
use Rattle.sbe_c.specs.Answers.{fault_number}
use Rattle.sbe_c.specs.Filling.{filled}
use Rattle.sbe_c.specs.Outcomes.{Outcome}

-- A message lies in the body, and this is its line.
pub record IsLine (schema : WireSchema) (body line : List ℕ) : Type 0 where
  pub message : Msg
  pub level : Level
  pub lies : Lays schema message body
  pub root : slice_get schema.messages message.template ≡ Some level
  pub is : line ≡ compact_text (message_at (Some level) message)

-- the first fault of the body; nothing is required when out of memory
abbrev pub IsNoLine : WireSchema → List ℕ → DumpErr → Type 0
IsNoLine schema body (Refused r) = FirstFault schema (refused r) body
IsNoLine schema body Memory = ⊤

-- The body has this line, and it is told as far as there is room.
pub record TellsLine (schema : WireSchema) (body : List ℕ) (told : Outcome) : Type 0 where
  pub line : List ℕ
  pub is : IsLine schema body line
  pub length_told : told.report.length ≡ length line
  pub line_told : told.new ≡ filled line told.old

-- The body isn't a message, and its first fault is told.
pub record TellsFault (schema : WireSchema) (body : List ℕ) (report : Report) : Type 0 where
  pub fault : Fault
  pub first : FirstFault schema fault body
  pub code_told : report.code ≡ fault_number fault.code
  pub offset_told : report.offset ≡ fault.offset

-- what a body is answered with, by an open schema
abbrev pub AnswersBody : Answer → WireSchema → List ℕ → Outcome → Type 0
AnswersBody answer.Done schema body told = TellsLine schema body told × (told.report.length ≤ length told.old)
AnswersBody answer.Closed schema body told = ⊥
AnswersBody answer.Memory schema body told = ⊤
AnswersBody answer.File schema body told = ⊥
AnswersBody answer.Rule schema body told = ⊥
AnswersBody answer.Body schema body told = TellsFault schema body told.report
AnswersBody answer.Room schema body told = TellsLine schema body told × (length told.old < told.report.length)
AnswersBody answer.Absent schema body told = ⊥
AnswersBody answer.Line schema body told = ⊥
AnswersBody answer.Misfit schema body told = ⊥

-- the same by a handle, which may be closed
abbrev pub AnswersDump : Answer → Option WireSchema → List ℕ → Outcome → Type 0
AnswersDump a (Some schema) body told = AnswersBody a schema body told
AnswersDump a None body told = a ≡ answer.Closed
