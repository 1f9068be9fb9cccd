-- What is answered when the body of a line is asked for.
use Rattle.std.specs.Prelude.{◌≡◌, ℕ, List, length, Option, Some, None, Ok, Err, ⊤}
use Rattle.sbe_types.specs.declared.schema.WireSchema.{WireSchema}
use Rattle.sbe_types.specs.declared.message.Msg.{Msg}
use Rattle.sbe_wire.specs.Canonical.{canonical}
use Rattle.sbe_wire.specs.Misfit.{Misfit, misfit}
use Rattle.layout_tables.specs.Paths.{path_text}
use Rattle.line_values.specs.declared.refusals.JCode.{JCode}
use Rattle.line_values.specs.Refusals.{refusal}
use Rattle.line_reading.specs.Lines.{tree_of}
use Rattle.sbe_c.specs.declared.answers.Answer.{Answer}
use Rattle.sbe_c.specs.declared.answers.Answer.TheVariants as answer
use Rattle.sbe_c.specs.Answers.{line_number, misfit_number}
use Rattle.sbe_c.specs.Filling.{filled}
use Rattle.sbe_c.specs.Opening.{Tells}
use Rattle.sbe_c.specs.Outcomes.{Outcome}

-- The message has a canonical body that the buffer has room for, and it is told.
pub record TellsBody (schema : WireSchema) (m : Msg) (told : Outcome) : Type 0 where
  pub body : List ℕ
  pub fits : misfit schema m (length told.old) ≡ None
  pub written : canonical schema m ≡ Some body
  pub length_told : told.report.length ≡ length body
  pub body_told : told.new ≡ filled body told.old

-- what is told of a misfit of a message of that template
abbrev pub TellsMisfit : WireSchema → ℕ → Misfit → Outcome → Type 0
TellsMisfit schema template why told = Tells (misfit_number why.code) (path_text schema template why.path) told

-- what is answered with a misfit
abbrev pub TellsWhy : Answer → WireSchema → ℕ → Misfit → Outcome → Type 0
TellsWhy answer.Done schema template why told = ⊥
TellsWhy answer.Closed schema template why told = ⊥
TellsWhy answer.Memory schema template why told = ⊤
TellsWhy answer.File schema template why told = ⊥
TellsWhy answer.Rule schema template why told = ⊥
TellsWhy answer.Body schema template why told = ⊥
TellsWhy answer.Room schema template why told = ⊥
TellsWhy answer.Absent schema template why told = ⊥
TellsWhy answer.Line schema template why told = ⊥
TellsWhy answer.Misfit schema template why told = TellsMisfit schema template why told

-- The message has no canonical body that the buffer has room for, and its first misfit is told.
pub record TellsFirst (schema : WireSchema) (m : Msg) (limit : ℕ) (told : Outcome) : Type 0 where
  pub why : Misfit
  pub first : misfit schema m limit ≡ Some why
  pub why_told : TellsMisfit schema m.template why told

-- what a message is answered with: what is told in the buffer for its body, and in that for a path
abbrev pub PutsIn : Answer → WireSchema → Msg → Outcome → Outcome → Type 0
PutsIn answer.Done schema m body path = TellsBody schema m body
PutsIn answer.Closed schema m body path = ⊥
PutsIn answer.Memory schema m body path = ⊤
PutsIn answer.File schema m body path = ⊥
PutsIn answer.Rule schema m body path = ⊥
PutsIn answer.Body schema m body path = ⊥
PutsIn answer.Room schema m body path = ⊥
PutsIn answer.Absent schema m body path = ⊥
PutsIn answer.Line schema m body path = ⊥
PutsIn answer.Misfit schema m body path = TellsFirst schema m (length body.old) path

-- The line isn't a message, and the first refusal is told.
pub record TellsLineFault (schema : WireSchema) (line : List ℕ) (told : Outcome) : Type 0 where
  pub code : JCode
  pub place : List ℕ
  pub refused : tree_of schema line ≡ Err (refusal code place)
  pub place_told : Tells (line_number code) place told

-- The line holds a message, of which this is true.
pub record Holds (schema : WireSchema) (line : List ℕ) (Says : Msg → Type 0) : Type 0 where
  pub message : Msg
  pub held : tree_of schema line ≡ Ok message
  pub says : Says message

-- what a line is answered with, by an open schema
abbrev pub BuildsIn : Answer → WireSchema → List ℕ → Outcome → Outcome → Type 0
BuildsIn answer.Done schema line body path = Holds schema line (λ m. TellsBody schema m body)
BuildsIn answer.Closed schema line body path = ⊥
BuildsIn answer.Memory schema line body path = ⊤
BuildsIn answer.File schema line body path = ⊥
BuildsIn answer.Rule schema line body path = ⊥
BuildsIn answer.Body schema line body path = ⊥
BuildsIn answer.Room schema line body path = ⊥
BuildsIn answer.Absent schema line body path = ⊥
BuildsIn answer.Line schema line body path = TellsLineFault schema line path
BuildsIn answer.Misfit schema line body path = Holds schema line (λ m. TellsFirst schema m (length body.old) path)

-- the same by a handle, which may be closed
abbrev pub AnswersBuild : Answer → Option WireSchema → List ℕ → Outcome → Outcome → Type 0
AnswersBuild a (Some schema) line body path = BuildsIn a schema line body path
AnswersBuild a None line body path = a ≡ answer.Closed
