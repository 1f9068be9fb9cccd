-- What loading a file answers.
use Rattle.std.specs.Prelude.{◌≡◌, ◌≤◌, ℕ, zero, suc, List, Option, Some, None, Result, Ok, Err, ⊤}
use Rattle.sbe_base.specs.Causes.{Rose, one_more}
use Rattle.sbe_types.specs.declared.schema.WireSchema.{WireSchema}
use Rattle.schema_files.specs.FileChecks.{file_schema, refused_as, IsWithin, JoinsFrom, JudgesSchemas, JudgesMore}
use Rattle.schema_files.specs.declared.files.FileRefusal.{FileRefusal}
use Rattle.schema_files.specs.declared.files.FileRefusal.TheVariants as file
use Rattle.schema_files.specs.declared.files.LoadStop.{LoadStop}
use Rattle.schema_files.specs.declared.files.LoadStop.TheVariants.{Refused, Fault, NoMemory}
use Rattle.schema_files.specs.declared.files.FileRole.{FileRole}
use Rattle.schema_files.specs.declared.files.FileRole.TheVariants as role
use Rattle.schema_files.specs.declared.files.RefusedFile.{RefusedFile}
use Rattle.schema_files.specs.declared.files.JobStop.{JobStop}
use Rattle.schema_files.specs.declared.files.JobStop.TheVariants as stop
use Rattle.dump_lines.specs.declared.schemas.Schemas.{Schemas}

-- the file is there, and isn't too long
abbrev pub IsRead : Result WireSchema FileRefusal → Type 0
IsRead (Ok schema) = ⊤
IsRead (Err file.Absent) = ⊥
IsRead (Err file.TooLong) = ⊥
IsRead (Err (file.Unread cause path)) = ⊤
IsRead (Err (file.Broken rule path)) = ⊤
IsRead (Err file.SameId) = ⊤
IsRead (Err file.FormDiffers) = ⊤
IsRead (Err (file.NoMap code path)) = ⊤
IsRead (Err (file.NotAnExtension path)) = ⊤

-- the answer is the schema in bytes or their refusal, unless it is out of memory
abbrev pub Reads : Result WireSchema FileRefusal → Result WireSchema LoadStop → Type 0
Reads judged (Ok schema) = judged ≡ Ok schema
Reads judged (Err (Refused refusal)) = judged ≡ Err refusal
Reads judged (Err Fault) = ⊥
Reads judged (Err NoMemory) = ⊤

-- the same for a file, unless the files failed; out of memory only for a file that is read
abbrev pub LoadsAs : Result WireSchema FileRefusal → Result WireSchema LoadStop → Type 0
LoadsAs judged (Ok schema) = judged ≡ Ok schema
LoadsAs judged (Err (Refused refusal)) = judged ≡ Err refusal
LoadsAs judged (Err Fault) = ⊤
LoadsAs judged (Err NoMemory) = IsRead judged

-- the same for a name, if the contents of the files are modelled
abbrev pub LoadsChecked : Option (List ℕ → Option (List ℕ)) → List ℕ → Result WireSchema LoadStop → Type 0
LoadsChecked told name result = (contents : List ℕ → Option (List ℕ)) → told ≡ Some contents → LoadsAs (file_schema (contents name)) result

-- a fault only if the count rose, and any other answer leaves it
abbrev pub LoadCause : {T : Type 0} → ℕ → ℕ → Result T LoadStop → Type 0
LoadCause before now (Ok x) = now ≡ before
LoadCause before now (Err Fault) = (before ≤ now) × Rose before now
LoadCause before now (Err (Refused refusal)) = now ≡ before
LoadCause before now (Err NoMemory) = now ≡ before

-- the same stop, for a file in this role
abbrev pub stop_of : FileRole → LoadStop → JobStop
stop_of role (Refused why) = stop.Refused (refused_as role why)
stop_of role Fault = stop.Fault role
stop_of role NoMemory = stop.NoMemory

-- a fault of the files only if the count rose, and any other answer leaves it
abbrev pub JobCause : {T : Type 0} → ℕ → ℕ → Result T JobStop → Type 0
JobCause before now (Ok x) = now ≡ before
JobCause before now (Err (stop.Fault role)) = (before ≤ now) × Rose before now
JobCause before now (Err (stop.Refused file)) = now ≡ before
JobCause before now (Err stop.NoMemory) = now ≡ before

-- ---- which file it was

-- how many loads a command makes up to the file in this role
abbrev pub loads_up_to : FileRole → ℕ
loads_up_to role.Schema = 1
loads_up_to (role.Also n) = suc n
loads_up_to role.Old = 1
loads_up_to role.New = 2
loads_up_to role.Map = 1
loads_up_to role.From = 1
loads_up_to role.To = 2

-- the count of loads after n more
abbrev pub after_loads : ℕ → ℕ → ℕ
after_loads zero before = before
after_loads (suc n) before = one_more (after_loads n before)

-- a stop that names a file names the one that was loaded last, where it takes so many loads up to each
abbrev pub NamesLastBy : {T : Type 0} → (FileRole → ℕ) → ℕ → ℕ → Result T JobStop → Type 0
NamesLastBy loads before now (Ok x) = ⊤
NamesLastBy loads before now (Err (stop.Refused refused)) = now ≡ after_loads (loads refused.role) before
NamesLastBy loads before now (Err (stop.Fault role)) = now ≡ after_loads (loads role) before
NamesLastBy loads before now (Err stop.NoMemory) = ⊤

-- the same of a command without a mapping after its schema
abbrev pub NamesLast : {T : Type 0} → ℕ → ℕ → Result T JobStop → Type 0
NamesLast {T} before now result = NamesLastBy {T = T} loads_up_to before now result

-- the same of a command whose mapping follows the first schema
abbrev pub loads_with_map : FileRole → ℕ
loads_with_map role.Schema = 1
loads_with_map (role.Also n) = suc (suc n)
loads_with_map role.Old = 1
loads_with_map role.New = 2
loads_with_map role.Map = 2
loads_with_map role.From = 1
loads_with_map role.To = 2

-- ---- several schemas

-- the answer about a further schema: that it is taken, or why it isn't
abbrev pub further_schema : WireSchema → Option FileRefusal → Result WireSchema FileRefusal
further_schema schema None = Ok schema
further_schema schema (Some why) = Err why

-- what a further file is judged as, unless the files failed or it ran out of memory
abbrev pub JoinsAs : Schemas → Result WireSchema FileRefusal → Result WireSchema LoadStop → Type 0
JoinsAs schemas file (Ok schema) = JoinsFrom schemas file (Ok schema)
JoinsAs schemas file (Err (Refused why)) = JoinsFrom schemas file (Err why)
JoinsAs schemas file (Err Fault) = ⊤
JoinsAs schemas file (Err NoMemory) = ⊤

-- the same for a name, if the contents of the files are modelled
abbrev pub LoadsJoining : Option (List ℕ → Option (List ℕ)) → Schemas → List ℕ → Result WireSchema LoadStop → Type 0
LoadsJoining told schemas name result =
    (contents : List ℕ → Option (List ℕ)) → told ≡ Some contents → JoinsAs schemas (file_schema (contents name)) result

-- the answer is the schemas of the files or the refusal, unless the files failed or it is out of memory
abbrev pub JudgedSo : (Result Schemas RefusedFile → Type 0) → Result Schemas JobStop → Type 0
JudgedSo Judges (Ok schemas) = Judges (Ok schemas)
JudgedSo Judges (Err (stop.Refused file)) = Judges (Err file)
JudgedSo Judges (Err (stop.Fault role)) = ⊤
JudgedSo Judges (Err stop.NoMemory) = ⊤

-- the same for further names after schemas that are accepted, if the contents of the files are modelled
abbrev pub LoadsMore : Option (List ℕ → Option (List ℕ)) → Schemas → List (List ℕ) → Result Schemas JobStop → Type 0
LoadsMore told schemas also result =
    (contents : List ℕ → Option (List ℕ)) → told ≡ Some contents → JudgedSo (JudgesMore contents schemas 1 also) result

-- the same for all names
abbrev pub LoadsSchemas : Option (List ℕ → Option (List ℕ)) → List ℕ → List (List ℕ) → Result Schemas JobStop → Type 0
LoadsSchemas told name also result =
    (contents : List ℕ → Option (List ℕ)) → told ≡ Some contents → JudgedSo (JudgesSchemas contents name also) result

-- the file that failed is the first or one of `many` further ones
abbrev pub FailsAt : ℕ → Result Schemas JobStop → Type 0
FailsAt many (Ok schemas) = ⊤
FailsAt many (Err (stop.Refused file)) = ⊤
FailsAt many (Err (stop.Fault role)) = IsWithin many role
FailsAt many (Err stop.NoMemory) = ⊤
