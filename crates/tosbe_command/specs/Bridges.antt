-- The command `tosbe`: what its files are judged to be. Own profile.
use Rattle.std.specs.Prelude.{◌≡◌, ◌≤◌, ℕ, List, Option, Result, Ok, Err, ⊤}
use Rattle.sbe_types.specs.declared.schema.WireSchema.{WireSchema}
use Rattle.schema_facts.specs.IsChecked.{IsChecked}
use Rattle.map_types.specs.declared.tree.Repository.{Repository}
use Rattle.map_types.specs.Trees.{members_of}
use Rattle.map_files.specs.Maps.{file_map, WasRead}
use Rattle.orchestra_map.specs.DataFields.{pairs_of}
use Rattle.orchestra_map.specs.Headers.{IsKept}
use Rattle.tagvalue_codec.specs.declared.data_tags.Pair.{Pair}
use Rattle.bridge_plan.specs.CheckedLevels.{HasShortCodes}
use Rattle.bridge_plan.specs.Mappings.{Mapping}
use Rattle.bridge_mapping.specs.Mapped.{mapping_of}
use Rattle.sbe_translation.specs.declared.plan.BackPlan.{BackPlan}
use Rattle.sbe_translation.specs.Plans.{AreBackPlans}
use Rattle.text_judge.specs.declared.judge.TextJudge.{TextJudge}
use Rattle.text_judge.specs.Judges.{IsJudge}
use Rattle.schema_files.specs.FileChecks.{file_schema, refused_as}
use Rattle.schema_files.specs.declared.files.FileRefusal.{FileRefusal}
use Rattle.schema_files.specs.declared.files.FileRole.{FileRole}
use Rattle.schema_files.specs.declared.files.FileRole.TheVariants as role
use Rattle.schema_files.specs.declared.files.RefusedFile.{RefusedFile}
use Rattle.schema_files.specs.declared.files.JobStop.{JobStop}
use Rattle.command_files.specs.Files.{FilesOf}
use Rattle.build_command.specs.Build.{body_limit}
use Rattle.tosbe_command.specs.declared.files.BridgeFiles.{BridgeFiles}

-- ---- what is accepted

-- the schema of the messages that are written, the mapping by which texts are translated to them, and the most bytes of
-- a frame
pub record BackBridge : Type 0 where
  pub schema : WireSchema
  pub repository : Repository
  pub frame : ℕ

-- what the bridge takes of the mapping
abbrev pub mapping_in : BackBridge → Mapping
mapping_in b = mapping_of (members_of b.repository)

-- its length tags and data tags
abbrev pub tags_in : BackBridge → List Pair
tags_in b = pairs_of (members_of b.repository)

-- the schema is a checked one, and the mapping's members keep their rules and have short codes
pub record IsBackBridge (b : BackBridge) : Type 0 where
  pub checked : IsChecked b.schema
  pub kept : IsKept b.repository
  pub short : HasShortCodes (mapping_in b)

-- the same of a bridge with this layout, these plans, these data fields and this judge
pub record IsSetUp (b : BackBridge) (layout : WireSchema) (plan : BackPlan) (tags : List Pair) (judge : TextJudge) : Type 0 where
  pub good : IsBackBridge b
  pub laid_out : layout ≡ b.schema
  pub planned : AreBackPlans (mapping_in b) b.schema.messages plan
  pub tagged : tags ≡ tags_in b
  pub judged : IsJudge (mapping_in b) b.schema.messages (tags_in b) judge

-- its frames have at most the bytes of the largest frame, and bodies have the room that such a frame leaves
pub record HasRoom (frame limit : ℕ) : Type 0 where
  pub most : frame ≤ 16_777_216
  pub limit_is : limit ≡ body_limit frame

-- ---- the files

-- the schema's file is judged whole before the mapping's: its refusal comes first
abbrev pub bridge_check : ℕ → Result WireSchema FileRefusal → Result Repository FileRefusal → Result BackBridge RefusedFile
bridge_check frame (Err why) repository = Err (refused_as role.Schema why)
bridge_check frame (Ok schema) (Err why) = Err (refused_as role.Map why)
bridge_check frame (Ok schema) (Ok repository) = Ok (record { schema = schema; repository = repository; frame = frame })

-- the files with these names are judged like this, for frames of at most `frame` bytes
abbrev pub JudgesBridge : List ℕ → List ℕ → ℕ → (List ℕ → Option (List ℕ)) → Result BackBridge RefusedFile → Type 0
JudgesBridge schema map frame contents judged = judged ≡ bridge_check frame (file_schema (contents schema)) (file_map (contents map))

-- the role of a schema's file or of a mapping's
abbrev pub IsBridgeRole : FileRole → Type 0
IsBridgeRole role.Schema = ⊤
IsBridgeRole (role.Also n) = ⊥
IsBridgeRole role.Old = ⊥
IsBridgeRole role.New = ⊥
IsBridgeRole role.Map = ⊤
IsBridgeRole role.From = ⊥
IsBridgeRole role.To = ⊥

-- The files of `tosbe`: the schema and the mapping.
abbrev pub tosbe_files : List ℕ → List ℕ → ℕ → FilesOf BackBridge
tosbe_files schema map frame = record { AreJudged = JudgesBridge schema map frame; IsRole = IsBridgeRole; AreGood = IsBackBridge }

-- ---- what was loaded

-- the schema is a checked one, and the mapping was read of a file and its members keep their rules
pub record IsReadPair (files : BridgeFiles) : Type 0 where
  pub checked : IsChecked files.checked
  pub kept : IsKept files.repository
  pub read : WasRead files.repository

-- the bridge of what was loaded, for frames of at most `frame` bytes
abbrev pub bridge_of : ℕ → Result BridgeFiles JobStop → Result BackBridge JobStop
bridge_of frame (Ok files) = Ok (record { schema = files.checked; repository = files.repository; frame = frame })
bridge_of frame (Err stop) = Err stop
