-- The files of `regrade`.
use Rattle.std.specs.Prelude.{◌≡◌, ℕ, List, Option, Result, Ok, Err, ⊤}
use Rattle.sbe_types.specs.declared.schema.WireSchema.{WireSchema}
use Rattle.schema_files.specs.FileChecks.{file_schema, refused_as, IsFromTo}
use Rattle.schema_files.specs.declared.files.FileRefusal.{FileRefusal}
use Rattle.schema_files.specs.declared.files.FileRefusal.TheVariants.{NotAnExtension}
use Rattle.schema_files.specs.declared.files.FileRole.TheVariants as role
use Rattle.schema_files.specs.declared.files.RefusedFile.{RefusedFile}
use Rattle.schema_files.specs.declared.files.JobStop.{JobStop}
use Rattle.schema_files.specs.declared.files.JobStop.TheVariants as stop
use Rattle.command_files.specs.Files.{FilesOf}
use Rattle.regrade_laws.specs.declared.way.Way.{Way}
use Rattle.regrade_laws.specs.Regraded.{way_of}
use Rattle.regrade.specs.declared.ways.WayErr.{WayErr}
use Rattle.regrade.specs.declared.ways.WayErr.TheVariants as err
use Rattle.regrade_command.specs.Regrade.{FromTo, Regrading, IsRegradable}

-- the pair, where the later schema extends the earlier one
abbrev pub paired : FromTo → Result Way (List ℕ) → Result FromTo RefusedFile
paired pair (Ok way) = Ok pair
paired pair (Err path) = Err (refused_as role.To (NotAnExtension path))

-- The file of the messages that are read is judged whole before that of those that are written; where both are accepted, the later schema has to
-- extend the earlier one.
abbrev pub regrade_check : Result WireSchema FileRefusal → Result WireSchema FileRefusal → Result FromTo RefusedFile
regrade_check (Err why) to = Err (refused_as role.From why)
regrade_check (Ok from) (Err why) = Err (refused_as role.To why)
regrade_check (Ok from) (Ok to) = paired (record { from = from; to = to }) (way_of from to)

-- the same, for frames of so many bytes
abbrev pub regraded_for : ℕ → Result FromTo RefusedFile → Result Regrading RefusedFile
regraded_for frame (Ok pair) = Ok (record { pair = pair; frame = frame })
regraded_for frame (Err file) = Err file

-- the files of these names are judged so
abbrev pub JudgesPair : List ℕ → List ℕ → ℕ → (List ℕ → Option (List ℕ)) → Result Regrading RefusedFile → Type 0
JudgesPair from to frame contents judged = judged ≡ regraded_for frame (regrade_check (file_schema (contents from)) (file_schema (contents to)))

-- how a pair without a way is refused, unless it ran out of memory
abbrev pub way_stop : WayErr → JobStop
way_stop (err.NotAnExtension path) = stop.Refused (refused_as role.To (NotAnExtension path))
way_stop err.Memory = stop.NoMemory

-- a pair is judged so for frames of so many bytes, unless it ran out of memory
abbrev pub JudgesPairAs : FromTo → ℕ → Result Regrading JobStop → Type 0
JudgesPairAs pair frame (Ok on) = (Ok on ≡ regraded_for frame (paired pair (way_of pair.from pair.to))) × IsRegradable on.pair
JudgesPairAs pair frame (Err (stop.Refused file)) = Err file ≡ paired pair (way_of pair.from pair.to)
JudgesPairAs pair frame (Err (stop.Fault role)) = ⊥
JudgesPairAs pair frame (Err stop.NoMemory) = ⊤

-- The files of `regrade`: the schema of the messages that are read, and that of those that are written.
abbrev pub regrade_files : List ℕ → List ℕ → ℕ → FilesOf Regrading
regrade_files from to frame =
    record { AreJudged = JudgesPair from to frame; IsRole = IsFromTo; AreGood = λ on. IsRegradable on.pair }
