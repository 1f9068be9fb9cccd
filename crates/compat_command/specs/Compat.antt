-- What `compat` answers for two schemas. Own profile.
use Rattle.std.specs.Prelude.{◌≡◌, ℕ, Option, Result, Ok, Err, List, [], ◌++◌, codes, ⊤}
use Rattle.sbe_types.specs.declared.schema.WireSchema.{WireSchema}
use Rattle.version_laws.specs.Answer.{compat}
use Rattle.replies.specs.Reply.{Reply}
use Rattle.schema_files.specs.FileChecks.{file_schema, refused_as, IsOfTwo}
use Rattle.command_files.specs.Files.{FilesOf}
use Rattle.schema_files.specs.declared.files.FileRefusal.{FileRefusal}
use Rattle.schema_files.specs.declared.files.FileRole.TheVariants as role
use Rattle.schema_files.specs.declared.files.RefusedFile.{RefusedFile}
use Rattle.schema_lines.specs.Texts.{json_text}
use Rattle.version_laws.specs.declared.difference.Reason.{Reason}
use Rattle.version_laws.specs.declared.difference.Reason.TheVariants as reason
use Rattle.version_laws.specs.declared.difference.Compat.{Compat}
use Rattle.version_laws.specs.declared.difference.Compat.TheVariants.{TwoWay, OneWay, No}
use Rattle.replies.specs.declared.verdict.Verdict.{Verdict}
use Rattle.replies.specs.declared.verdict.Verdict.TheVariants.{Answered, Refused}

-- The printed name of what differs.
abbrev pub reason_name : Reason → List ℕ
reason_name reason.Id = codes "Id"
reason_name reason.ByteOrder = codes "ByteOrder"
reason_name reason.Header = codes "Header"
reason_name reason.Version = codes "Version"
reason_name reason.Message = codes "Message"
reason_name reason.Part = codes "Part"
reason_name reason.Since = codes "Since"
reason_name reason.Place = codes "Place"
reason_name reason.Kind = codes "Kind"

-- the line of an answer
abbrev pub compared_line : Compat → List ℕ
compared_line TwoWay = codes "{\"compat\":\"TwoWay\"}\n"
compared_line (OneWay path) = codes "{\"compat\":\"OneWay\",\"path\":" ++ (json_text path ++ codes "}\n")
compared_line (No path reason) =
    codes "{\"compat\":\"No\",\"path\":" ++ (json_text path ++ (codes ",\"reason\":\"" ++ (reason_name reason ++ codes "\"}\n")))

-- The pair of schemas is the one item of the run. It is refused if the answer is No, so that the run ends with status
-- 1; with any other answer the run ends with 0.
abbrev pub compared_verdict : Compat → Verdict
compared_verdict TwoWay = Answered
compared_verdict (OneWay path) = Answered
compared_verdict (No path reason) = Refused

-- ---- the command

-- two schemas; the second should extend the first
pub record Pair : Type 0 where
  pub older : WireSchema
  pub newer : WireSchema

-- all that `compat` replies
abbrev pub IsCompatReply : Pair → Reply → Type 0
IsCompatReply pair reply =
    (reply.output ≡ compared_line (compat pair.older pair.newer)) × (reply.notes ≡ []) × (reply.verdict ≡ compared_verdict (compat pair.older pair.newer))

-- The pair of an older and a newer schema, or the first refusal; the older file is checked completely before the newer.
abbrev pub versions_check : Result WireSchema FileRefusal → Result WireSchema FileRefusal → Result Pair RefusedFile
versions_check (Err why) newer = Err (refused_as role.Old why)
versions_check (Ok older) (Err why) = Err (refused_as role.New why)
versions_check (Ok older) (Ok newer) = Ok (record { older = older; newer = newer })

-- the files with these names contain this, or are refused
abbrev pub JudgesTwo : List ℕ → List ℕ → (List ℕ → Option (List ℕ)) → Result Pair RefusedFile → Type 0
JudgesTwo older newer contents judged = judged ≡ versions_check (file_schema (contents older)) (file_schema (contents newer))

-- The files of `compat`: the older schema and the newer one.
abbrev pub compat_files : List ℕ → List ℕ → FilesOf Pair
compat_files older newer = record { AreJudged = JudgesTwo older newer; IsRole = IsOfTwo; AreGood = λ pair. ⊤ }
