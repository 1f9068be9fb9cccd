-- What is answered when numbers of a body are asked for.
use Rattle.std.specs.Prelude.{◌≡◌, ◌<◌, ◌≤◌, ℕ, ℤ, nat_eq, nat_lt, if◌then◌else◌, Option, Some, None, List, [], map, length, slice_get, ⊤}
use Rattle.sbe_types.specs.declared.schema.Level.{Level}
use Rattle.sbe_types.specs.declared.schema.WireSchema.{WireSchema}
use Rattle.sbe_types.specs.declared.message.Msg.{Msg}
use Rattle.sbe_wire.specs.Faults.{FirstFault}
use Rattle.sbe_wire.specs.Lays.{Lays}
use Rattle.body_walk.specs.Refusals.{refused}
use Rattle.flyweight_view.specs.TypedBlocks.{TypedBlock, TypedMessage, typed_level}
use Rattle.field_lookup.specs.declared.entry_fields.EntryField.{EntryField}
use Rattle.field_lookup.specs.declared.entry_fields.EntryNames.{EntryNames}
use Rattle.field_lookup.specs.EntryFields.{entry_field_named}
use Rattle.field_lookup.specs.Values.{composite_at, group_entries, number_at}
use Rattle.sbe_c.specs.declared.answers.Answer.{Answer}
use Rattle.sbe_c.specs.declared.answers.Answer.TheVariants as answer
use Rattle.sbe_c.specs.declared.reading.Number.{Number}
use Rattle.sbe_c.specs.declared.reading.ReadErr.{ReadErr}
use Rattle.sbe_c.specs.declared.reading.ReadErr.TheVariants.{Refused, Memory}
use Rattle.sbe_c.specs.Dumping.{TellsFault}
use Rattle.sbe_c.specs.Filling.{filled}
use Rattle.sbe_c.specs.Outcomes.{NumbersOutcome, number_told}

-- ---- a field by its names

-- the field of these names is at this place, or there is none
abbrev pub FindsIn : Answer → WireSchema → EntryNames → EntryField → Type 0
FindsIn answer.Done schema names place = entry_field_named names schema ≡ Some place
FindsIn answer.Closed schema names place = ⊥
FindsIn answer.Memory schema names place = ⊤
FindsIn answer.File schema names place = ⊥
FindsIn answer.Rule schema names place = ⊥
FindsIn answer.Body schema names place = ⊥
FindsIn answer.Room schema names place = ⊥
FindsIn answer.Absent schema names place = entry_field_named names schema ≡ None
FindsIn answer.Line schema names place = ⊥
FindsIn answer.Misfit schema names place = ⊥

-- the same by a handle, which may be closed
abbrev pub AnswersFind : Answer → Option WireSchema → EntryNames → EntryField → Type 0
AnswersFind a (Some schema) names place = FindsIn a schema names place
AnswersFind a None names place = a ≡ answer.Closed

-- ---- the numbers of a group's entries

-- the number of a composite's first member, or of a field that is none
abbrev pub number_by : Option TypedBlock → Option ℤ → Option ℤ
number_by (Some members) number = number_at 0 members
number_by None number = number

-- the number of field i, or of its first member if it is a composite
abbrev pub value_at : ℕ → TypedBlock → Option ℤ
value_at i block = if nat_lt i (length block.fields) then number_by (composite_at i block) (number_at i block) else None

-- the numbers at a place, of each entry in order; a message of another template has none
abbrev pub numbers_at : EntryField → TypedMessage → List (Option ℤ)
numbers_at place seen =
    if nat_eq seen.message.template place.template
    then map (value_at place.field) (group_entries place.group (typed_level seen.level seen.message.block)) else []

-- A message lies in the body, and these are its numbers at a place.
pub record AreNumbers (schema : WireSchema) (body : List ℕ) (place : EntryField) (numbers : List Number) : Type 0 where
  pub message : Msg
  pub level : Level
  pub lies : Lays schema message body
  pub root : slice_get schema.messages message.template ≡ Some level
  pub are : map number_told numbers ≡ numbers_at place (record { level = level; message = message })

-- the first fault of the body; nothing is required when out of memory
abbrev pub IsNoReading : WireSchema → List ℕ → ReadErr → Type 0
IsNoReading schema body (Refused r) = FirstFault schema (refused r) body
IsNoReading schema body Memory = ⊤

-- The body has these numbers, and they are told as far as there is room.
pub record TellsNumbers (schema : WireSchema) (body : List ℕ) (place : EntryField) (told : NumbersOutcome) : Type 0 where
  pub numbers : List Number
  pub are : AreNumbers schema body place numbers
  pub length_told : told.report.length ≡ length numbers
  pub numbers_told : told.new ≡ filled numbers told.old

-- what a body is answered with, by an open schema
abbrev pub ReadsIn : Answer → WireSchema → List ℕ → EntryField → NumbersOutcome → Type 0
ReadsIn answer.Done schema body place told = TellsNumbers schema body place told × (told.report.length ≤ length told.old)
ReadsIn answer.Closed schema body place told = ⊥
ReadsIn answer.Memory schema body place told = ⊤
ReadsIn answer.File schema body place told = ⊥
ReadsIn answer.Rule schema body place told = ⊥
ReadsIn answer.Body schema body place told = TellsFault schema body told.report
ReadsIn answer.Room schema body place told = TellsNumbers schema body place told × (length told.old < told.report.length)
ReadsIn answer.Absent schema body place told = ⊥
ReadsIn answer.Line schema body place told = ⊥
ReadsIn answer.Misfit schema body place told = ⊥

-- the same by a handle, which may be closed
abbrev pub AnswersNumbers : Answer → Option WireSchema → List ℕ → EntryField → NumbersOutcome → Type 0
AnswersNumbers a (Some schema) body place told = ReadsIn a schema body place told
AnswersNumbers a None body place told = a ≡ answer.Closed
