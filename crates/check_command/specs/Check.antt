-- What `check` replies.
use Rattle.std.specs.Prelude.{◌≡◌, ℕ, List, [], ⊤}
use Rattle.sbe_types.specs.declared.schema.WireSchema.{WireSchema}
use Rattle.schema_lines.specs.Lines.{message_lines}
use Rattle.schema_files.specs.FileChecks.{IsWithin}
use Rattle.command_files.specs.Files.{JudgesFile}
use Rattle.command_files.specs.Files.{FilesOf}
use Rattle.schema_files.specs.declared.files.FileRole.TheVariants as role
use Rattle.replies.specs.Reply.{Reply}
use Rattle.replies.specs.declared.verdict.Verdict.TheVariants.{Answered}

-- all that `check` replies
abbrev pub IsCheckReply : WireSchema → Reply → Type 0
IsCheckReply schema reply = (reply.output ≡ message_lines schema.messages) × (reply.notes ≡ []) × (reply.verdict ≡ Answered)

-- The files of `check`: only the schema.
abbrev pub check_files : List ℕ → FilesOf WireSchema
check_files name = record { AreJudged = JudgesFile role.Schema name; IsRole = IsWithin 0; AreGood = λ schema. ⊤ }
