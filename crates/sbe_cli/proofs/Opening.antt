-- A pump isn't opened.
use Rattle.std.proofs.Common.{◌≡◌, ℕ, Option, Err, ap, ◌∙◌}
use Rattle.sbe_base.specs.declared.status.Status.{Status}
use Rattle.sbe_cli.specs.Jobs.{LoadsJob, loads_of}
use Rattle.sbe_base.specs.Objects.{Object}
use Rattle.replies.specs.Outside.{NotesLine}
use Rattle.sbe_cli.specs.Outside.{Desk, IsLast}
use Rattle.sbe_cli.specs.Opens.{Declines, refuses}
use Rattle.sbe_cli.specs.Stops.{unopened_line, unopened_status}
use Rattle.schema_files.specs.declared.files.RefusedFile.{RefusedFile}
use Rattle.schema_files.specs.declared.files.JobStop.TheVariants.{Refused}
use Rattle.sbe_cli.specs.declared.unopened.Unopened.TheVariants as unopened
use Rattle.command_words.specs.declared.words.Command.{Command}

pub declined : (command : Command) (before after : Desk) (file : RefusedFile) (code : Status) → LoadsJob before.files.told command (Err (Refused file)) →
    IsLast (loads_of command) file.role before.loads after.loads → after.files ≡ before.files → NotesLine (unopened_line (unopened.Refused file)) (unopened_status (unopened.Refused file)) before.notes after.notes code → Declines command before after code
declined command before after file code h last same told = refuses file h.files.judges last same told

-- an object that tells the same and counts the same
pub same_object : {T : Type 0} (old new : Object T) → new.told ≡ old.told → new.faults ≡ old.faults → new ≡ old
same_object {T = T} old new told faults = ap (λ t. the_object t new.faults) told ∙ ap (λ n. the_object old.told n) faults
  where
    the_object : Option T → ℕ → Object T
    the_object t n = record { told = t; faults = n }
