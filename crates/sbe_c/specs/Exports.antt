-- What the exports answer, by the numbers that C sees.
use Rattle.std.specs.Prelude.{◌≡◌, ℕ, List, Option}
use Rattle.sbe_c.specs.declared.answers.Answer.{Answer}
use Rattle.sbe_c.specs.declared.answers.Report.{Report}
use Rattle.sbe_types.specs.declared.schema.WireSchema.{WireSchema}
use Rattle.sbe_c.specs.Answers.{answer_code}
use Rattle.sbe_c.specs.Opening.{AnswersOpen}
use Rattle.sbe_c.specs.Dumping.{AnswersDump}
use Rattle.sbe_c.specs.Reading.{AnswersFind, AnswersNumbers}
use Rattle.sbe_c.specs.declared.reading.Number.{Number}
use Rattle.flyweight_view.specs.TypedBlocks.{TypedMessage}
use Rattle.sbe_c.specs.declared.validating.Message.{Message}
use Rattle.field_lookup.specs.declared.entry_fields.EntryField.{EntryField}
use Rattle.field_lookup.specs.declared.entry_fields.EntryNames.{EntryNames}
use Rattle.field_lookup.specs.declared.parts.Part.{Part}
use Rattle.field_lookup.specs.Places.{Spot}
use Rattle.sbe_c.specs.Outcomes.{NumbersOutcome, Outcome}
use Rattle.sbe_c.specs.Validating.{AnswersValidate}
use Rattle.sbe_c.specs.Building.{AnswersBuild}
use Rattle.sbe_c.specs.Naming.{AnswersPart, Sought}
use Rattle.sbe_c.specs.Fields.{AnswersNumber, AnswersState, AnswersText}

-- The number is that of an answer to opening the file.
pub record Opens (code : ℕ) (file : List ℕ) (handle : Option WireSchema) (told : Outcome) : Type 0 where
  pub answer : Answer
  pub number : code ≡ answer_code answer
  pub answers : AnswersOpen answer file handle told

-- The number is that of an answer to dumping the body.
pub record Dumps (code : ℕ) (handle : Option WireSchema) (body : List ℕ) (told : Outcome) : Type 0 where
  pub answer : Answer
  pub number : code ≡ answer_code answer
  pub answers : AnswersDump answer handle body told

-- The number is that of an answer to finding a field by its names.
pub record Finds (code : ℕ) (handle : Option WireSchema) (names : EntryNames) (place : EntryField) : Type 0 where
  pub answer : Answer
  pub number : code ≡ answer_code answer
  pub answers : AnswersFind answer handle names place

-- The number is that of an answer to reading the numbers of a body.
pub record Reads (code : ℕ) (handle : Option WireSchema) (body : List ℕ) (place : EntryField) (told : NumbersOutcome) : Type 0 where
  pub answer : Answer
  pub number : code ≡ answer_code answer
  pub answers : AnswersNumbers answer handle body place told

-- The number is that of an answer to validating the body.
pub record Validates (code : ℕ) (handle : Option WireSchema) (body : List ℕ) (message : Message) (path : Outcome) : Type 0 where
  pub answer : Answer
  pub number : code ≡ answer_code answer
  pub answers : AnswersValidate answer handle body message path

-- The number is that of an answer to building the body of the line.
pub record Builds (code : ℕ) (handle : Option WireSchema) (line : List ℕ) (body path : Outcome) : Type 0 where
  pub answer : Answer
  pub number : code ≡ answer_code answer
  pub answers : AnswersBuild answer handle line body path

-- The number is that of an answer to looking for a part by its name.
pub record Names (code : ℕ) (handle : Option WireSchema) (sought : Sought) (part : Part) : Type 0 where
  pub answer : Answer
  pub number : code ≡ answer_code answer
  pub answers : AnswersPart answer handle sought part

-- The number is that of an answer to reading the number of a field.
pub record Numbers (code : ℕ) (handle : Option WireSchema) (body : List ℕ) (spot : Spot) (told : Number × Report) : Type 0 where
  pub answer : Answer
  pub number : code ≡ answer_code answer
  pub answers : AnswersNumber answer handle body spot told

-- The number is that of an answer to reading the state of a field.
pub record States (code : ℕ) (handle : Option WireSchema) (body : List ℕ) (spot : Spot) (report : Report) : Type 0 where
  pub answer : Answer
  pub number : code ≡ answer_code answer
  pub answers : AnswersState answer handle body spot report

-- The number is that of an answer to reading a text of the message.
pub record Texts (text : TypedMessage → Option (List ℕ)) (code : ℕ) (handle : Option WireSchema) (body : List ℕ) (told : Outcome) : Type 0 where
  pub answer : Answer
  pub number : code ≡ answer_code answer
  pub answers : AnswersText text answer handle body told
