-- The command `build`: what its file contains or why it is refused, and its reply to a line.
use Rattle.std.specs.Prelude.{◌≡◌, ℕ, List, Option, Result, Ok, Err}
use Rattle.sbe_types.specs.declared.schema.WireSchema.{WireSchema}
use Rattle.replies.specs.Reply.{Reply}
use Rattle.schema_files.specs.FileChecks.{file_schema, IsWithin}
use Rattle.command_files.specs.Files.{in_role}
use Rattle.command_files.specs.Files.{FilesOf}
use Rattle.schema_facts.specs.IsChecked.{IsChecked}
use Rattle.schema_files.specs.declared.files.FileRole.TheVariants as role
use Rattle.schema_files.specs.declared.files.RefusedFile.{RefusedFile}
use Rattle.command_steps.specs.declared.kept.Kept.{Kept}
use Rattle.build_command.specs.Build.{IsBuilt}

-- the schema of the messages that are built, and the most bytes of a frame
pub record Building : Type 0 where
  pub schema : WireSchema
  pub frame : ℕ

-- the reply of `build` to a line
abbrev pub IsBuildReply : Building → Kept → List ℕ → Reply → Type 0
IsBuildReply building kept line reply = IsBuilt building.schema building.frame kept.items line reply

-- the same file, for frames of at most `frame` bytes
abbrev pub built_for : ℕ → Result WireSchema RefusedFile → Result Building RefusedFile
built_for frame (Ok schema) = Ok (record { schema = schema; frame = frame })
built_for frame (Err file) = Err file

-- the file with this name contains this, or is refused
abbrev pub JudgesBuild : List ℕ → ℕ → (List ℕ → Option (List ℕ)) → Result Building RefusedFile → Type 0
JudgesBuild name frame contents judged = judged ≡ built_for frame (in_role role.Schema (file_schema (contents name)))

-- The files of `build`: only the schema, for frames of at most `frame` bytes.
abbrev pub build_files : List ℕ → ℕ → FilesOf Building
build_files name frame = record { AreJudged = JudgesBuild name frame; IsRole = IsWithin 0; AreGood = λ building. IsChecked building.schema }
