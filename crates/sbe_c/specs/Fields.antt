-- What is answered when single values of a body are asked for.
use Rattle.std.specs.Prelude.{◌≡◌, ◌<◌, ◌≤◌, ℕ, Option, Some, None, List, length, slice_get}
use Rattle.std.specs.Option.{option_map}
use Rattle.sbe_types.specs.declared.schema.Level.{Level}
use Rattle.sbe_types.specs.declared.schema.WireSchema.{WireSchema}
use Rattle.sbe_types.specs.declared.message.Msg.{Msg}
use Rattle.sbe_wire.specs.Lays.{Lays}
use Rattle.flyweight_view.specs.TypedBlocks.{TypedMessage}
use Rattle.field_lookup.specs.Places.{Spot, message_number, message_state}
use Rattle.sbe_c.specs.declared.answers.Answer.{Answer}
use Rattle.sbe_c.specs.declared.answers.Answer.TheVariants as answer
use Rattle.sbe_c.specs.declared.answers.Report.{Report}
use Rattle.sbe_c.specs.declared.reading.Number.{Number}
use Rattle.sbe_c.specs.Answers.{state_number}
use Rattle.sbe_c.specs.Dumping.{TellsFault}
use Rattle.sbe_c.specs.Filling.{filled}
use Rattle.sbe_c.specs.Outcomes.{Outcome, number_told}

-- A message lies in the body, of which this is true.
pub record IsIn (schema : WireSchema) (body : List ℕ) (Says : TypedMessage → Type 0) : Type 0 where
  pub message : Msg
  pub level : Level
  pub lies : Lays schema message body
  pub root : slice_get schema.messages message.template ≡ Some level
  pub says : Says (record { level = level; message = message })

-- what a body is answered with when a number is asked for, by an open schema
abbrev pub NumberIn : Answer → WireSchema → List ℕ → Spot → Number × Report → Type 0
NumberIn answer.Done schema body spot told = IsIn schema body (λ seen. number_told told.0 ≡ message_number spot seen)
NumberIn answer.Closed schema body spot told = ⊥
NumberIn answer.Memory schema body spot told = ⊥
NumberIn answer.File schema body spot told = ⊥
NumberIn answer.Rule schema body spot told = ⊥
NumberIn answer.Body schema body spot told = TellsFault schema body told.1
NumberIn answer.Room schema body spot told = ⊥
NumberIn answer.Absent schema body spot told = ⊥
NumberIn answer.Line schema body spot told = ⊥
NumberIn answer.Misfit schema body spot told = ⊥

-- the same by a handle, which may be closed
abbrev pub AnswersNumber : Answer → Option WireSchema → List ℕ → Spot → Number × Report → Type 0
AnswersNumber a (Some schema) body spot told = NumberIn a schema body spot told
AnswersNumber a None body spot told = a ≡ answer.Closed

-- what a body is answered with when the state of a field is asked for, by an open schema
abbrev pub StateIn : Answer → WireSchema → List ℕ → Spot → Report → Type 0
StateIn answer.Done schema body spot report = IsIn schema body (λ seen. option_map state_number (message_state spot seen) ≡ Some report.code)
StateIn answer.Closed schema body spot report = ⊥
StateIn answer.Memory schema body spot report = ⊥
StateIn answer.File schema body spot report = ⊥
StateIn answer.Rule schema body spot report = ⊥
StateIn answer.Body schema body spot report = TellsFault schema body report
StateIn answer.Room schema body spot report = ⊥
StateIn answer.Absent schema body spot report = IsIn schema body (λ seen. message_state spot seen ≡ None)
StateIn answer.Line schema body spot report = ⊥
StateIn answer.Misfit schema body spot report = ⊥

-- the same by a handle, which may be closed
abbrev pub AnswersState : Answer → Option WireSchema → List ℕ → Spot → Report → Type 0
AnswersState a (Some schema) body spot report = StateIn a schema body spot report
AnswersState a None body spot report = a ≡ answer.Closed

-- There is a text, and it is told as far as there is room.
pub record TellsText (text : Option (List ℕ)) (told : Outcome) : Type 0 where
  pub bytes : List ℕ
  pub is : text ≡ Some bytes
  pub length_told : told.report.length ≡ length bytes
  pub bytes_told : told.new ≡ filled bytes told.old

-- what a text is answered with, if there is one
abbrev pub GivesText : Answer → Option (List ℕ) → Outcome → Type 0
GivesText answer.Done text told = TellsText text told × (told.report.length ≤ length told.old)
GivesText answer.Closed text told = ⊥
GivesText answer.Memory text told = ⊥
GivesText answer.File text told = ⊥
GivesText answer.Rule text told = ⊥
GivesText answer.Body text told = ⊥
GivesText answer.Room text told = TellsText text told × (length told.old < told.report.length)
GivesText answer.Absent text told = text ≡ None
GivesText answer.Line text told = ⊥
GivesText answer.Misfit text told = ⊥

-- what a body is answered with when a text of its message is asked for, by an open schema
abbrev pub TextIn : (TypedMessage → Option (List ℕ)) → Answer → WireSchema → List ℕ → Outcome → Type 0
TextIn text answer.Done schema body told = IsIn schema body (λ seen. GivesText answer.Done (text seen) told)
TextIn text answer.Closed schema body told = ⊥
TextIn text answer.Memory schema body told = ⊥
TextIn text answer.File schema body told = ⊥
TextIn text answer.Rule schema body told = ⊥
TextIn text answer.Body schema body told = TellsFault schema body told.report
TextIn text answer.Room schema body told = IsIn schema body (λ seen. GivesText answer.Room (text seen) told)
TextIn text answer.Absent schema body told = IsIn schema body (λ seen. GivesText answer.Absent (text seen) told)
TextIn text answer.Line schema body told = ⊥
TextIn text answer.Misfit schema body told = ⊥

-- the same by a handle, which may be closed
abbrev pub AnswersText : (TypedMessage → Option (List ℕ)) → Answer → Option WireSchema → List ℕ → Outcome → Type 0
AnswersText text a (Some schema) body told = TextIn text a schema body told
AnswersText text a None body told = a ≡ answer.Closed
