-- The command `tofix`: what its files are judged to be. Own profile.
use Rattle.std.specs.Prelude.{◌≡◌, ◌≤◌, ℕ, zero, suc, List, Option, Some, None, Result, Ok, Err, IfOk, length, ⊤}
use Rattle.sbe_types.specs.declared.schema.WireSchema.{WireSchema}
use Rattle.map_types.specs.declared.tree.Repository.{Repository}
use Rattle.map_types.specs.Trees.{members_of}
use Rattle.map_files.specs.Maps.{file_map}
use Rattle.bridge_mapping.specs.Mapped.{mapping_of}
use Rattle.dump_lines.specs.Dumped.{AreInOrder}
use Rattle.dump_lines.specs.declared.schemas.Schemas.{Schemas}
use Rattle.schema_files.specs.FileChecks.{alone, file_schema, refused_as, JudgesMore}
use Rattle.schema_files.specs.declared.files.FileRefusal.{FileRefusal}
use Rattle.schema_files.specs.declared.files.FileRole.{FileRole}
use Rattle.schema_files.specs.declared.files.FileRole.TheVariants as role
use Rattle.schema_files.specs.declared.files.RefusedFile.{RefusedFile}
use Rattle.schema_files.specs.declared.files.JobStop.{JobStop}
use Rattle.schema_files.specs.declared.files.JobStop.TheVariants as stop
use Rattle.command_files.specs.Files.{FailsIn, FilesOf}
use Rattle.command_words.specs.declared.options.HeadWords.{HeadWords}
use Rattle.fix_messages.specs.Heads.{Head}
use Rattle.tofix_replies.specs.ToFix.{Bridge}
use Rattle.tofix_command.specs.declared.loading.ToFixWords.{ToFixWords}

-- ---- the words

-- the sequence number of the first text; none if it is 0
abbrev pub seq_in : ℕ → Option ℕ
seq_in zero = None
seq_in (suc n) = Some (suc n)

-- the head that the arguments give
abbrev pub head_in : HeadWords → Head
head_in words = record { begin = words.begin; sender = words.sender; target = words.target; seq = seq_in words.seq; time = words.time }

-- the names of the files, and what the arguments give
pub record BridgeWords : Type 0 where
  pub schema : List ℕ
  pub map : List ℕ
  pub also : List (List ℕ)
  pub head : Head
  pub frame : ℕ

-- the same, as it is passed
abbrev pub words_in : ToFixWords → BridgeWords
words_in words = record { schema = words.schema.now; map = words.map.now; also = words.also.now; head = head_in words.head.now; frame = words.frame }

-- ---- what is accepted

-- the schemas and the mapping of accepted files, with what the arguments give
pub record Translating : Type 0 where
  pub schemas : Schemas
  pub repository : Repository
  pub head : Head
  pub frame : ℕ

-- what its messages are translated by
abbrev pub bridge_of : Translating → Bridge
bridge_of t = record { schemas = t.schemas; mapping = mapping_of (members_of t.repository); head = t.head; frame = t.frame }

-- schemas and a mapping, with what the arguments give
abbrev pub translating_by : BridgeWords → Repository → Result Schemas RefusedFile → Result Translating RefusedFile
translating_by words repository (Err file) = Err file
translating_by words repository (Ok schemas) = Ok (record { schemas = schemas; repository = repository; head = words.head; frame = words.frame })

-- ---- the files

-- after a file that is accepted comes the next, and a refused one ends all
abbrev pub GoesOnTo : {X Y : Type 0} → FileRole → Result X FileRefusal → (X → Type 0) → Result Y RefusedFile → Type 0
GoesOnTo at (Ok x) Next judged = Next x
GoesOnTo at (Err why) Next judged = judged ≡ Err (refused_as at why)

-- further schemas, after the first and the mapping
abbrev pub JudgesRest : (List ℕ → Option (List ℕ)) → BridgeWords → WireSchema → Result Translating RefusedFile → Repository → Type 0
JudgesRest contents words first judged repository =
    (schemas : Result Schemas RefusedFile) × JudgesMore contents (alone first) 1 words.also schemas × (judged ≡ translating_by words repository schemas)

-- the mapping and the further schemas, after the first schema
abbrev pub JudgesMapped : (List ℕ → Option (List ℕ)) → BridgeWords → Result Translating RefusedFile → WireSchema → Type 0
JudgesMapped contents words judged first = GoesOnTo role.Map (file_map (contents words.map)) (JudgesRest contents words first judged) judged

-- The schema, the mapping and the further schemas, in the order of the words, or the first file that is refused.
abbrev pub JudgesTranslating : BridgeWords → (List ℕ → Option (List ℕ)) → Result Translating RefusedFile → Type 0
JudgesTranslating words contents judged = GoesOnTo role.Schema (file_schema (contents words.schema)) (JudgesMapped contents words judged) judged

-- the schema, the mapping, or one of so many further schemas
abbrev pub IsBridgeRole : ℕ → FileRole → Type 0
IsBridgeRole many role.Schema = ⊤
IsBridgeRole many role.Map = ⊤
IsBridgeRole many (role.Also n) = (1 ≤ n) × (n ≤ many)
IsBridgeRole many role.Old = ⊥
IsBridgeRole many role.New = ⊥
IsBridgeRole many role.From = ⊥
IsBridgeRole many role.To = ⊥

-- The files of `tofix`.
abbrev pub tofix_files : BridgeWords → FilesOf Translating
tofix_files words =
    record { AreJudged = JudgesTranslating words; IsRole = IsBridgeRole (length words.also); AreGood = λ t. AreInOrder t.schemas }

-- ---- the loading, step by step

-- the answer is what the mapping and the further files are judged to be, unless the files failed or it is out of memory
abbrev pub MappedSo : BridgeWords → WireSchema → (List ℕ → Option (List ℕ)) → Result Translating JobStop → Type 0
MappedSo words first contents (Ok t) = JudgesMapped contents words (Ok t) first
MappedSo words first contents (Err (stop.Refused file)) = JudgesMapped contents words (Err file) first
MappedSo words first contents (Err (stop.Fault at)) = ⊤
MappedSo words first contents (Err stop.NoMemory) = ⊤

-- the mapping and the further files are loaded after the first schema
pub record LoadsMapped (words : BridgeWords) (first : WireSchema) (told : Option (List ℕ → Option (List ℕ))) (result : Result Translating JobStop) : Type 0 where
  pub judges : (contents : List ℕ → Option (List ℕ)) → told ≡ Some contents → MappedSo words first contents result
  pub fails : FailsIn (IsBridgeRole (length words.also)) result
  pub good : IfOk result (λ t. AreInOrder t.schemas)

-- a translator of these schemas and this mapping is made, or it is out of memory
abbrev pub IsMade : BridgeWords → Schemas → Repository → Result Translating JobStop → Type 0
IsMade words schemas repository (Ok t) = t ≡ record { schemas = schemas; repository = repository; head = words.head; frame = words.frame }
IsMade words schemas repository (Err (stop.Refused file)) = ⊥
IsMade words schemas repository (Err (stop.Fault at)) = ⊥
IsMade words schemas repository (Err stop.NoMemory) = ⊤
