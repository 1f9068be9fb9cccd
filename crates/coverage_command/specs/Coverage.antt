-- What `check` replies to a schema and a mapping. Own profile.
use Rattle.std.specs.Prelude.{◌≡◌, ℕ, List, [], ◌∷◌, ◌++◌, codes, flat_map, Option, Result, Ok, Err, ⊤}
use Rattle.sbe_types.specs.declared.schema.Level.{Level, out-Level}
use Rattle.sbe_types.specs.declared.schema.WireSchema.{WireSchema}
use Rattle.schema_lines.specs.Lines.{message_line}
use Rattle.schema_lines.specs.Texts.{json_text}
use Rattle.map_types.specs.declared.tree.Repository.{Repository}
use Rattle.map_types.specs.Trees.{members_of}
use Rattle.map_files.specs.Maps.{file_map}
use Rattle.orchestra_map.specs.Headers.{IsKept}
use Rattle.bridge_plan.specs.Mappings.{Mapping}
use Rattle.bridge_plan.specs.Covers.{Cover, cover_of, covered_by, no_message, unmapped}
use Rattle.bridge_mapping.specs.Mapped.{mapping_of}
use Rattle.replies.specs.Reply.{Reply}
use Rattle.replies.specs.declared.verdict.Verdict.TheVariants.{Answered}
use Rattle.schema_files.specs.FileChecks.{file_schema, refused_as}
use Rattle.schema_files.specs.declared.files.FileRefusal.{FileRefusal}
use Rattle.schema_files.specs.declared.files.FileRole.{FileRole}
use Rattle.schema_files.specs.declared.files.FileRole.TheVariants as role
use Rattle.schema_files.specs.declared.files.RefusedFile.{RefusedFile}
use Rattle.command_files.specs.Files.{FilesOf}

-- ---- the lines

-- a name after a dot
abbrev pub after_dot : List ℕ → List ℕ
after_dot name = codes "." ++ name

-- names with a dot between each two
abbrev pub dotted : List (List ℕ) → List ℕ
dotted [] = []
dotted (name ∷ names) = name ++ flat_map after_dot names

-- the line of a message without a plan: the refusal that its texts would have, and the path of the part
abbrev pub refused_line : List ℕ → List ℕ → List (List ℕ) → List ℕ
refused_line name code path =
    codes "{\"message\":" ++ (json_text name ++ (codes ",\"map\":null,\"refused\":\"" ++ (code ++ (codes "\",\"path\":" ++ (json_text (dotted path) ++ codes "}\n")))))

-- the line of a message that is covered, with its MsgType
abbrev pub mapped_line : Level → List ℕ
mapped_line level =
    codes "{\"message\":" ++ (json_text (out-Level level).name ++ (codes ",\"map\":" ++ (json_text (out-Level level).semantic ++ codes "}\n")))

-- what a mapping says of a message
abbrev pub cover_line : Level → Cover → List ℕ
cover_line level (covered_by plan) = mapped_line level
cover_line level no_message = refused_line (out-Level level).name (codes "B01") []
cover_line level (unmapped path) = refused_line (out-Level level).name (codes "B02") path

-- both lines of a message
abbrev pub covered_lines : Mapping → Level → List ℕ
covered_lines m level = message_line level ++ cover_line level (cover_of m level)

-- the lines of all messages, in order
abbrev pub coverage_lines : Mapping → List Level → List ℕ
coverage_lines m levels = flat_map (covered_lines m) levels

-- ---- the command

-- a schema, and the mapping that is to cover its messages
pub record Pair : Type 0 where
  pub schema : WireSchema
  pub repository : Repository

-- all that `check` replies
abbrev pub IsCoverageReply : Pair → Reply → Type 0
IsCoverageReply pair reply =
    (reply.output ≡ coverage_lines (mapping_of (members_of pair.repository)) pair.schema.messages) × (reply.notes ≡ []) × (reply.verdict ≡ Answered)

-- the schema's file is judged whole before the mapping's: its refusal comes first
abbrev pub coverage_check : Result WireSchema FileRefusal → Result Repository FileRefusal → Result Pair RefusedFile
coverage_check (Err why) repository = Err (refused_as role.Schema why)
coverage_check (Ok schema) (Err why) = Err (refused_as role.Map why)
coverage_check (Ok schema) (Ok repository) = Ok (record { schema = schema; repository = repository })

-- the files of these names are judged so
abbrev pub JudgesBoth : List ℕ → List ℕ → (List ℕ → Option (List ℕ)) → Result Pair RefusedFile → Type 0
JudgesBoth schema map contents judged = judged ≡ coverage_check (file_schema (contents schema)) (file_map (contents map))

-- a schema's file or a mapping's
abbrev pub IsEither : FileRole → Type 0
IsEither role.Schema = ⊤
IsEither (role.Also n) = ⊥
IsEither role.Old = ⊥
IsEither role.New = ⊥
IsEither role.Map = ⊤
IsEither role.From = ⊥
IsEither role.To = ⊥

-- The files of `check` with a mapping: the schema and the mapping, whose members keep their rules.
abbrev pub coverage_files : List ℕ → List ℕ → FilesOf Pair
coverage_files schema map = record { AreJudged = JudgesBoth schema map; IsRole = IsEither; AreGood = λ pair. IsKept pair.repository }
