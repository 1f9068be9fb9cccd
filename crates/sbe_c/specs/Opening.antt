-- What is answered when a schema is opened.
use Rattle.std.specs.Prelude.{◌≡◌, ℕ, List, length, Option, Some, None, Ok, Err, ⊤}
use Rattle.schema_files.specs.FileChecks.{schema_in}
use Rattle.schema_files.specs.declared.files.FileRefusal.TheVariants.{Unread, Broken}
use Rattle.sbe_c.specs.declared.answers.Answer.{Answer}
use Rattle.sbe_c.specs.declared.answers.Answer.TheVariants as answer
use Rattle.sbe_types.specs.declared.schema.WireSchema.{WireSchema}
use Rattle.sbe_c.specs.declared.opening.OpenErr.{OpenErr}
use Rattle.sbe_c.specs.declared.opening.OpenErr.TheVariants.{File, Rule, Memory}
use Rattle.json_elements.specs.declared.refusal.Cause.{Cause}
use Rattle.schema_rules.specs.declared.codes.CCode.{CCode}
use Rattle.sbe_c.specs.Answers.{cause_number, rule_number}
use Rattle.sbe_c.specs.Filling.{filled}
use Rattle.sbe_c.specs.Outcomes.{Outcome}

-- this is the schema of the file
abbrev pub IsOpened : List ℕ → WireSchema → Type 0
IsOpened file schema = schema_in file ≡ Ok schema

-- the first fault of the file, or the first rule that its schema breaks; nothing is required when out of memory
abbrev pub IsNotOpened : List ℕ → OpenErr → Type 0
IsNotOpened file (File cause path) = schema_in file ≡ Err (Unread cause path)
IsNotOpened file (Rule rule path) = schema_in file ≡ Err (Broken rule path)
IsNotOpened file Memory = ⊤

-- a number and a path are told, the path as far as there is room
pub record Tells (code : ℕ) (path : List ℕ) (told : Outcome) : Type 0 where
  pub code_told : told.report.code ≡ code
  pub length_told : told.report.length ≡ length path
  pub path_told : told.new ≡ filled path told.old

-- the file is refused for this cause, at this path
pub record TellsCause (file : List ℕ) (told : Outcome) : Type 0 where
  pub cause : Cause
  pub path : List ℕ
  pub refused : schema_in file ≡ Err (Unread cause path)
  pub cause_told : Tells (cause_number cause) path told

-- the schema of the file breaks this rule, at this path
pub record TellsRule (file : List ℕ) (told : Outcome) : Type 0 where
  pub rule : CCode
  pub path : List ℕ
  pub refused : schema_in file ≡ Err (Broken rule path)
  pub rule_told : Tells (rule_number rule) path told

-- the handle is open with the schema of the file
abbrev pub OpensAs : List ℕ → Option WireSchema → Type 0
OpensAs file (Some schema) = IsOpened file schema
OpensAs file None = ⊥

-- what a file's schema is answered with: the handle's schema after the call, and what is told
abbrev pub AnswersOpen : Answer → List ℕ → Option WireSchema → Outcome → Type 0
AnswersOpen answer.Done file handle told = OpensAs file handle
AnswersOpen answer.Closed file handle told = ⊥
AnswersOpen answer.Memory file handle told = handle ≡ None
AnswersOpen answer.File file handle told = (handle ≡ None) × TellsCause file told
AnswersOpen answer.Rule file handle told = (handle ≡ None) × TellsRule file told
AnswersOpen answer.Body file handle told = ⊥
AnswersOpen answer.Room file handle told = ⊥
AnswersOpen answer.Absent file handle told = ⊥
AnswersOpen answer.Line file handle told = ⊥
AnswersOpen answer.Misfit file handle told = ⊥
