-- What opening a pump does.
use Rattle.std.specs.Prelude.{◌≡◌, ℕ, Option, Some, Result, Ok, Err, List}
use Rattle.sbe_base.specs.declared.status.Status.{Status}
use Rattle.sbe_base.specs.declared.status.Status.TheVariants as status
use Rattle.command_steps.specs.Steps.{Moment, opened}
use Rattle.sbe_cli.specs.Jobs.{Job, IsReadAs, IsReady, Judges, HasFile, loads_of}
use Rattle.sbe_cli.specs.Stops.{unopened_line, unopened_status}
use Rattle.sbe_base.specs.Objects.{Failed}
use Rattle.replies.specs.Outside.{NotesLine}
use Rattle.sbe_cli.specs.Outside.{Desk, IsLast}
use Rattle.schema_files.specs.declared.files.FileRole.{FileRole}
use Rattle.schema_files.specs.declared.files.RefusedFile.{RefusedFile}
use Rattle.sbe_cli.specs.declared.unopened.Unopened.{Unopened}
use Rattle.sbe_cli.specs.declared.unopened.Unopened.TheVariants as unopened
use Rattle.command_words.specs.declared.words.Command.{Command}

-- what a pump does, and where it is
pub record PumpState : Type 0 where
  pub job : Job
  pub at : Moment

-- A pump that has done nothing yet.
abbrev pub opened_for : Job → PumpState
opened_for job = record { job = job; at = opened }

-- the files of the command are accepted or refused like this, if their contents are modelled
abbrev pub JudgedAs : Command → Desk → Result Job RefusedFile → Type 0
JudgedAs command before judged = (contents : List ℕ → Option (List ℕ)) → before.files.told ≡ Some contents → Judges command contents judged

-- this is noted, and its status answered, or the write failed
abbrev pub NotesWhy : Unopened → Desk → Desk → Status → Type 0
NotesWhy why before after code = NotesLine (unopened_line why) (unopened_status why) before.notes after.notes code

-- A file is refused, the files failed, or it is out of memory. The file that is reported is the last one that was
-- loaded.
pub data Declines (command : Command) (before after : Desk) (code : Status) : Type 0 where
  refuses : (file : RefusedFile) → JudgedAs command before (Err file) → IsLast (loads_of command) file.role before.loads after.loads → after.files ≡ before.files
      → NotesWhy (unopened.Refused file) before after code → Declines command before after code
  fails : (role : FileRole) → HasFile command role → IsLast (loads_of command) role before.loads after.loads → Failed before.files after.files
      → NotesWhy (unopened.FileFault role) before after code → Declines command before after code
  wants : code ≡ status.NoMemory → after.files ≡ before.files → after.notes ≡ before.notes → Declines command before after code

-- The pump of the command's job, or the status for files that are declined.
abbrev pub Opens : Command → Desk → Desk → Result PumpState Status → Type 0
Opens command before after (Ok pump) =
    JudgedAs command before (Ok pump.job) × IsReady command pump.job × (pump ≡ opened_for pump.job)
    × (after.files ≡ before.files) × (after.notes ≡ before.notes) × IsReadAs command pump.job
Opens command before after (Err code) = Declines command before after code
