-- The files of a command: what they contain or why they are refused, and what loading them gives.
use Rattle.std.specs.Prelude.{◌≡◌, ℕ, List, Option, Some, Result, Ok, Err, IfOk, ⊤}
use Rattle.sbe_types.specs.declared.schema.WireSchema.{WireSchema}
use Rattle.schema_files.specs.FileChecks.{file_schema, refused_as}
use Rattle.schema_files.specs.declared.files.FileRefusal.{FileRefusal}
use Rattle.schema_files.specs.declared.files.FileRole.{FileRole}
use Rattle.schema_files.specs.declared.files.RefusedFile.{RefusedFile}
use Rattle.schema_files.specs.declared.files.JobStop.{JobStop}
use Rattle.schema_files.specs.declared.files.JobStop.TheVariants as stop

-- The files of a command: what they contain or why they are refused, which roles they have, and what holds of those
-- that are accepted.
pub record FilesOf (X : Type 0) : Type 1 where
  pub AreJudged : (List ℕ → Option (List ℕ)) → Result X RefusedFile → Type 0
  pub IsRole : FileRole → Type 0
  pub AreGood : X → Type 0

-- the answer is what the files contain or the refusal, unless the files failed or it is out of memory
abbrev pub JudgedSo : {X : Type 0} → (Result X RefusedFile → Type 0) → Result X JobStop → Type 0
JudgedSo AreJudged (Ok files) = AreJudged (Ok files)
JudgedSo AreJudged (Err (stop.Refused file)) = AreJudged (Err file)
JudgedSo AreJudged (Err (stop.Fault role)) = ⊤
JudgedSo AreJudged (Err stop.NoMemory) = ⊤

-- a file that failed has one of these roles
abbrev pub FailsIn : {X : Type 0} → (FileRole → Type 0) → Result X JobStop → Type 0
FailsIn IsRole (Ok files) = ⊤
FailsIn IsRole (Err (stop.Refused file)) = ⊤
FailsIn IsRole (Err (stop.Fault role)) = IsRole role
FailsIn IsRole (Err stop.NoMemory) = ⊤

-- The files were loaded: the answer is right for the contents, if these are modelled, and a file that failed is one of
-- them.
pub record LoadsFiles {X : Type 0} (files : FilesOf X) (told : Option (List ℕ → Option (List ℕ))) (result : Result X JobStop) : Type 0 where
  pub judges : (contents : List ℕ → Option (List ℕ)) → told ≡ Some contents → JudgedSo (files.AreJudged contents) result
  pub fails : FailsIn files.IsRole result
  pub good : IfOk result files.AreGood

-- ---- one file

-- what the file in this role contains, or its refusal
abbrev pub in_role : {X : Type 0} → FileRole → Result X FileRefusal → Result X RefusedFile
in_role at (Ok held) = Ok held
in_role at (Err why) = Err (refused_as at why)

-- the file with this name, in this role, contains this, or is refused
abbrev pub JudgesFile : FileRole → List ℕ → (List ℕ → Option (List ℕ)) → Result WireSchema RefusedFile → Type 0
JudgesFile at name contents judged = judged ≡ in_role at (file_schema (contents name))
