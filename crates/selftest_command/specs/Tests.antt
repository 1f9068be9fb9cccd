-- The command `selftest`: what its file contains or why it is refused, and its reply.
use Rattle.std.specs.Prelude.{◌≡◌, ℕ, List, [], Option, Result, Ok, Err, ⊤}
use Rattle.sbe_types.specs.declared.schema.WireSchema.{WireSchema}
use Rattle.replies.specs.Reply.{Reply}
use Rattle.replies.specs.declared.verdict.Verdict.TheVariants.{Answered}
use Rattle.schema_files.specs.FileChecks.{file_schema, IsWithin}
use Rattle.schema_files.specs.declared.files.FileRole.TheVariants as role
use Rattle.schema_files.specs.declared.files.RefusedFile.{RefusedFile}
use Rattle.command_files.specs.Files.{FilesOf, in_role}
use Rattle.selftest_command.specs.declared.trial.Trial.{Trial}
use Rattle.selftest_command.specs.Selftest.{sums_line, sums_until}

-- the schema of the messages that are tried, and which of them
pub record Testing : Type 0 where
  pub schema : WireSchema
  pub trial : Trial

-- all that `selftest` replies
abbrev pub IsSelftestReply : Testing → Reply → Type 0
IsSelftestReply test reply =
    (reply.output ≡ sums_line (sums_until test.schema test.trial test.trial.count)) × (reply.notes ≡ []) × (reply.verdict ≡ Answered)

-- the same file, for this trial
abbrev pub tested_by : Trial → Result WireSchema RefusedFile → Result Testing RefusedFile
tested_by trial (Ok schema) = Ok (record { schema = schema; trial = trial })
tested_by trial (Err file) = Err file

-- the file with this name contains this, or is refused
abbrev pub JudgesSelftest : List ℕ → Trial → (List ℕ → Option (List ℕ)) → Result Testing RefusedFile → Type 0
JudgesSelftest name trial contents judged = judged ≡ tested_by trial (in_role role.Schema (file_schema (contents name)))

-- The files of `selftest`: only the schema.
abbrev pub selftest_files : List ℕ → Trial → FilesOf Testing
selftest_files name trial = record { AreJudged = JudgesSelftest name trial; IsRole = IsWithin 0; AreGood = λ test. ⊤ }
