-- The mapping of a file, or why the file is refused, and what loading it answers.
use Rattle.std.specs.Prelude.{◌≡◌, ℕ, List, [], Option, Some, None, Result, Ok, Err, ⊤}
use Rattle.sbe_base.specs.Loads.{MayLoad}
use Rattle.json_elements.specs.declared.file.TheConstants.{FILE_LIMIT}
use Rattle.map_types.specs.declared.codes.MCode.TheVariants.{Limit}
use Rattle.map_types.specs.declared.tree.Repository.{Repository}
use Rattle.orchestra_map.specs.Mappings.{Mapping, map_of}
use Rattle.schema_files.specs.declared.files.FileRefusal.{FileRefusal}
use Rattle.schema_files.specs.declared.files.FileRefusal.TheVariants.{Absent, NoMap}
use Rattle.schema_files.specs.declared.files.LoadStop.{LoadStop}
use Rattle.schema_files.specs.declared.files.LoadStop.TheVariants.{Refused, Fault, NoMemory}
use Rattle.schema_files.specs.declared.files.FileRole.{FileRole}
use Rattle.schema_files.specs.declared.files.FileRole.TheVariants as role

-- a mapping, or why the file has none
abbrev pub in_file : Mapping → Result Repository FileRefusal
in_file (Ok repository) = Ok repository
in_file (Err e) = Err (NoMap e.code e.path)

-- The mapping of a file, or why it is refused; a file over its limit has none.
abbrev pub file_map : Option (List ℕ) → Result Repository FileRefusal
file_map None = Err Absent
file_map (Some bytes) = in_file (map_of bytes)

-- the refusal of a file over its limit
abbrev pub too_long : FileRefusal
too_long = NoMap Limit []

-- the repository is that of the bytes of some file
abbrev pub WasRead : Repository → Type 0
WasRead repository = (bytes : List ℕ) × (map_of bytes ≡ Ok repository)

-- what bytes are judged as, unless it ran out of memory
abbrev pub ReadsMap : List ℕ → Result Repository LoadStop → Type 0
ReadsMap bytes (Ok repository) = in_file (map_of bytes) ≡ Ok repository
ReadsMap bytes (Err (Refused refusal)) = in_file (map_of bytes) ≡ Err refusal
ReadsMap bytes (Err Fault) = ⊥
ReadsMap bytes (Err NoMemory) = ⊤

-- the same for a file, unless the files failed; out of memory only for a file that may be loaded
abbrev pub LoadsMapAs : Option (List ℕ) → Result Repository LoadStop → Type 0
LoadsMapAs file (Ok repository) = file_map file ≡ Ok repository
LoadsMapAs file (Err (Refused refusal)) = file_map file ≡ Err refusal
LoadsMapAs file (Err Fault) = ⊤
LoadsMapAs file (Err NoMemory) = MayLoad file FILE_LIMIT

-- the same for a name, if the contents of the files are modelled
abbrev pub LoadsMap : Option (List ℕ → Option (List ℕ)) → List ℕ → Result Repository LoadStop → Type 0
LoadsMap told name result = (contents : List ℕ → Option (List ℕ)) → told ≡ Some contents → LoadsMapAs (contents name) result

-- the role is that of the mapping's file
abbrev pub IsMap : FileRole → Type 0
IsMap role.Schema = ⊥
IsMap (role.Also n) = ⊥
IsMap role.Old = ⊥
IsMap role.New = ⊥
IsMap role.Map = ⊤
IsMap role.From = ⊥
IsMap role.To = ⊥
