-- What is answered when a body is validated.
use Rattle.std.specs.Prelude.{◌≡◌, ℕ, List, Option, Some, None, ⊤}
use Rattle.sbe_types.specs.declared.schema.WireSchema.{WireSchema}
use Rattle.sbe_types.specs.declared.message.Msg.{Msg}
use Rattle.sbe_wire.specs.Faults.{Fault, FirstFault}
use Rattle.sbe_wire.specs.Lays.{Lays}
use Rattle.dump_lines.specs.Refused.{message_meant, way_text}
use Rattle.sbe_c.specs.declared.answers.Answer.{Answer}
use Rattle.sbe_c.specs.declared.answers.Answer.TheVariants as answer
use Rattle.sbe_c.specs.declared.validating.Message.{Message}
use Rattle.sbe_c.specs.Answers.{fault_number}
use Rattle.sbe_c.specs.Opening.{Tells}
use Rattle.sbe_c.specs.Outcomes.{Outcome}

-- A message lies in the body, and its template and version are told.
pub record TellsMessage (schema : WireSchema) (body : List ℕ) (told : Message) : Type 0 where
  pub message : Msg
  pub lies : Lays schema message body
  pub template_told : told.template ≡ message.template
  pub version_told : told.version ≡ message.version

-- The body isn't a message, and its first fault is told, with the path of the part that has it.
pub record TellsFaultPath (schema : WireSchema) (body : List ℕ) (told : Outcome) : Type 0 where
  pub fault : Fault
  pub first : FirstFault schema fault body
  pub offset_told : told.report.offset ≡ fault.offset
  pub path_told : Tells (fault_number fault.code) (way_text schema (message_meant schema body) fault.path) told

-- what a body is answered with, by an open schema
abbrev pub ValidatesIn : Answer → WireSchema → List ℕ → Message → Outcome → Type 0
ValidatesIn answer.Done schema body message path = TellsMessage schema body message
ValidatesIn answer.Closed schema body message path = ⊥
ValidatesIn answer.Memory schema body message path = ⊤
ValidatesIn answer.File schema body message path = ⊥
ValidatesIn answer.Rule schema body message path = ⊥
ValidatesIn answer.Body schema body message path = TellsFaultPath schema body path
ValidatesIn answer.Room schema body message path = ⊥
ValidatesIn answer.Absent schema body message path = ⊥
ValidatesIn answer.Line schema body message path = ⊥
ValidatesIn answer.Misfit schema body message path = ⊥

-- the same by a handle, which may be closed
abbrev pub AnswersValidate : Answer → Option WireSchema → List ℕ → Message → Outcome → Type 0
AnswersValidate a (Some schema) body message path = ValidatesIn a schema body message path
AnswersValidate a None body message path = a ≡ answer.Closed
