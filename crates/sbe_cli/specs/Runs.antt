-- What a run promises about the outside before and after it.
use Rattle.std.specs.Prelude.{◌≡◌, ◌⊎◌, ℕ, true, false, Option, Some, Ok, List, [], ◌∷◌, ◌++◌, length}
use Rattle.std.specs.Io.KnownBytes.{Consumes, Appends}
use Rattle.sbe_base.specs.Causes.{AppendsPart}
use Rattle.sbe_base.specs.declared.status.Status.{Status}
use Rattle.sbe_base.specs.declared.status.Status.TheVariants as status
use Rattle.command_words.specs.Words.{command_of}
use Rattle.command_steps.specs.Splits.{Piece, Holds}
use Rattle.command_steps.specs.Ahead.{Ahead, Follows}
use Rattle.command_steps.specs.Reaches.{IsAhead, Reaches}
use Rattle.replies.specs.Reply.{Written, Reply, written_of}
use Rattle.command_steps.specs.Replies.{none_kept, Replies}
use Rattle.command_steps.specs.Ends.{Outcome, stop_line}
use Rattle.sbe_cli.specs.Report.{Report}
use Rattle.sbe_cli.specs.Jobs.{Job, answering_of, reading_of, Judges, HasFile, IsReadAs, IsReady, loads_of, reads_input, spares_memory}
use Rattle.sbe_cli.specs.Stops.{unopened_line}
use Rattle.sbe_base.specs.Objects.{Failed}
use Rattle.replies.specs.Outside.{Sinks, Streams, Wrote, Breaks, Calm}
use Rattle.sbe_cli.specs.Outside.{Desk, Outside, IsLast}
use Rattle.command_steps.specs.Steps.{Drains, IsReported, IsStepStatus}
use Rattle.sbe_cli.specs.Opens.{JudgedAs, Declines}
use Rattle.schema_files.specs.declared.files.FileRole.{FileRole}
use Rattle.command_steps.specs.declared.kept.Kept.{Kept}
use Rattle.command_steps.specs.declared.end.Stop.TheVariants as stop
use Rattle.sbe_cli.specs.declared.unopened.Unopened.TheVariants as unopened
use Rattle.command_words.specs.declared.words.Command.{Command}

-- the files and the notes
abbrev pub desk : Outside → Desk
desk outside = record { files = outside.files; loads = outside.loads; notes = outside.streams.sinks.notes }

-- the contents of the files and the input are modelled
pub record Known (old : Outside) (contents : List ℕ → Option (List ℕ)) (input : List ℕ) : Type 0 where
  pub files : old.files.told ≡ Some contents
  pub source : old.streams.input.told ≡ Some input

-- P holds of the contents of the files and of the input, if they are modelled
abbrev pub WhenKnown : Outside → ((List ℕ → Option (List ℕ)) → List ℕ → Type 0) → Type 0
WhenKnown old P = (contents : List ℕ → Option (List ℕ)) (input : List ℕ) → Known old contents input → P contents input

-- all of these bytes went to the output
abbrev pub GivesOutput : Outside → Outside → List ℕ → Type 0
GivesOutput old new bytes = Appends old.streams.sinks.output.told new.streams.sinks.output.told bytes

-- a prefix of these bytes went to the output
abbrev pub GivesOutputPart : Outside → Outside → List ℕ → Type 0
GivesOutputPart old new bytes = AppendsPart old.streams.sinks.output.told new.streams.sinks.output.told bytes

-- a prefix of these bytes went to the notes
abbrev pub GivesNotesPart : Outside → Outside → List ℕ → Type 0
GivesNotesPart old new bytes = AppendsPart old.streams.sinks.notes.told new.streams.sinks.notes.told bytes

-- the source gave these bytes
abbrev pub GaveInput : Outside → Outside → List ℕ → Type 0
GaveInput old new taken = Consumes old.streams.input.told new.streams.input.told taken

-- nothing is left of the input
abbrev pub LeavesNothing : Outside → Outside → Type 0
LeavesNothing old new = (input : List ℕ) → old.streams.input.told ≡ Some input → new.streams.input.told ≡ Some []

-- the output or the notes failed
abbrev pub SinkFailed : Outside → Outside → Type 0
SinkFailed old new = Failed old.streams.sinks.output new.streams.sinks.output ⊎ Failed old.streams.sinks.notes new.streams.sinks.notes

-- the words are a command, its files are accepted, and this is its job
abbrev pub IsJob : List (List ℕ) → (List ℕ → Option (List ℕ)) → Job → Type 0
IsJob words contents job = (command : Command) × (command_of words ≡ Some command) × Judges command contents (Ok job)

-- What an outcome writes.
abbrev pub written_in : Outcome → Written
written_in outcome = record { output = outcome.output; notes = outcome.notes }

-- Output, notes and status are those of the report.
abbrev pub Reports : List (List ℕ) → Outside → Outside → Status → Type 0
Reports words old new code =
    WhenKnown old (λ contents input. (outcome : Outcome) × Report words contents input outcome
    × (code ≡ outcome.status) × Wrote old.streams.sinks new.streams.sinks (written_in outcome))

-- the words are a command that has a file in that role, and the run loaded that file last
abbrev pub NamesLoaded : List (List ℕ) → Outside → Outside → FileRole → Type 0
NamesLoaded words old new role =
    (command : Command) × (command_of words ≡ Some command) × HasFile command role × IsLast (loads_of command) role old.loads new.loads

-- ---- what is written after a fault

-- All whole pieces of these bytes, which the source gave, are answered.
pub record AllAnswered (words : List (List ℕ)) (contents : List ℕ → Option (List ℕ)) (taken : List ℕ) (written : Written) : Type 0 where
  pub job : Job
  pub is_job : IsJob words contents job
  pub pieces : List Piece
  pub whole : Holds (reading_of job) taken pieces
  pub kept : Kept
  pub replies : Replies (answering_of job) none_kept pieces written kept

-- the line of an input that failed after these bytes
abbrev pub read_line : List ℕ → List ℕ
read_line taken = stop_line (stop.ReadFault (length taken))

-- The source gave some bytes and failed. All whole pieces of them are answered, and the fault is noted.
abbrev pub StandsAtRead : List (List ℕ) → Outside → Outside → (List ℕ → Option (List ℕ)) → Type 0
StandsAtRead words old new contents =
    (taken : List ℕ) × (written : Written) × GaveInput old new taken × AllAnswered words contents taken written
    × Wrote old.streams.sinks new.streams.sinks (record { output = written.output; notes = written.notes ++ read_line taken })

-- A write of the answer to the last of these pieces failed. The answers to the others are written, and nothing after
-- the last was taken, except what was read ahead of lines.
pub record AtReply (words : List (List ℕ)) (contents : List ℕ → Option (List ℕ)) (input : List ℕ) (old new : Streams) : Type 0 where
  pub job : Job
  pub is_job : IsJob words contents job
  pub pieces : List Piece
  pub last : Piece
  pub left : List ℕ
  pub ahead : Ahead
  pub only_lines : IsAhead (reading_of job) ahead
  pub source : Follows ahead new.input.told left
  pub begins : Reaches ahead (reading_of job) input (pieces ++ last ∷ []) left
  pub kept : Kept
  pub written : Written
  pub replies : Replies (answering_of job) none_kept pieces written kept
  pub reply : Reply
  pub replied : (answering_of job).IsReply kept last reply
  pub mid : Sinks
  pub whole : Wrote old.sinks mid written
  pub part : Breaks mid new.sinks (written_of reply)

-- Where a write failed: at an answer; at the last line of the report, after all answers; at the line of a fault of the
-- input, or of the files.
pub data StandsAtWrite (words : List (List ℕ)) (old new : Outside) (contents : List ℕ → Option (List ℕ)) (input : List ℕ) : Type 0 where
  at_reply : AtReply words contents input old.streams new.streams → StandsAtWrite words old new contents input
  at_end : (outcome : Outcome) → Report words contents input outcome → GivesOutput old new outcome.output
      → GivesNotesPart old new outcome.notes → StandsAtWrite words old new contents input
  at_read : (taken : List ℕ) (written : Written) → GaveInput old new taken → AllAnswered words contents taken written
      → GivesOutput old new written.output → GivesNotesPart old new (written.notes ++ read_line taken) → StandsAtWrite words old new contents input
  at_file : (role : FileRole) → NamesLoaded words old new role → new.streams.input ≡ old.streams.input → new.streams.sinks.output ≡ old.streams.sinks.output
      → GivesNotesPart old new (unopened_line (unopened.FileFault role)) → StandsAtWrite words old new contents input

-- The files failed at the file that was loaded last, which the words name: nothing was read, and only the fault is
-- noted.
pub record StandsAtFile (words : List (List ℕ)) (old new : Outside) : Type 0 where
  pub role : FileRole
  pub named : NamesLoaded words old new role
  pub input : new.streams.input ≡ old.streams.input
  pub wrote : Wrote old.streams.sinks new.streams.sinks (record { output = []; notes = unopened_line (unopened.FileFault role) })

-- ---- prefixes

-- A line that reports a fault of the files, or of the input after the bytes that it gave. That object failed.
abbrev pub IsFaultLine : List (List ℕ) → Outside → Outside → List ℕ → Type 0
IsFaultLine words old new line =
    (Failed old.files new.files × ((role : FileRole) × NamesLoaded words old new role × (line ≡ unopened_line (unopened.FileFault role))))
    ⊎ (Failed old.streams.input new.streams.input × ((taken : List ℕ) × GaveInput old new taken × (line ≡ read_line taken)))

-- the notes grew by a prefix of these, or by a prefix of them and a prefix of such a line
abbrev pub NotesPart : List (List ℕ) → Outside → Outside → List ℕ → Type 0
NotesPart words old new notes =
    GivesNotesPart old new notes
    ⊎ ((front : List ℕ) × (back : List ℕ) × (line : List ℕ) × (notes ≡ front ++ back) × IsFaultLine words old new line
    × GivesNotesPart old new (front ++ line))

-- Output and notes grew by prefixes of the report's.
abbrev pub Fronts : List (List ℕ) → Outside → Outside → Type 0
Fronts words old new =
    (contents : List ℕ → Option (List ℕ)) (input : List ℕ) (outcome : Outcome) → Known old contents input → Report words contents input outcome →
    GivesOutputPart old new outcome.output × NotesPart words old new outcome.notes

-- ---- the run

-- the input was read to its end
abbrev pub HasRead : Status → Type 0
HasRead code = (code ≡ status.Done) ⊎ (code ≡ status.SomeRefused)

-- What the words, and the outside before and after, determine of the status.
pub record Runs (words : List (List ℕ)) (old new : Outside) (code : Status) : Type 0 where
  -- nothing outside cut the run short: everything is as in the report, no call failed, and nothing is left if all of
  -- the input was answered
  pub report : IsReported code → Reports words old new code
  pub calm : IsReported code → (new.files.faults ≡ old.files.faults) × Calm old.streams new.streams
  pub read : reads_input (command_of words) ≡ true → HasRead code → LeavesNothing old new
  -- a fault is answered only if that object failed
  pub file_fault : code ≡ status.FileFault → Failed old.files new.files
  pub read_fault : code ≡ status.ReadFault → Failed old.streams.input new.streams.input
  pub write_fault : code ≡ status.WriteFault → SinkFailed old new
  -- what is written after a fault
  pub file_stands : code ≡ status.FileFault → StandsAtFile words old new
  pub read_stands : code ≡ status.ReadFault → WhenKnown old (λ contents input. StandsAtRead words old new contents)
  pub write_stands : code ≡ status.WriteFault → WhenKnown old (λ contents input. StandsAtWrite words old new contents input)
  pub fronts : Fronts words old new
  -- if the words are a command that takes no memory, it is out of memory only before anything was read or written
  pub memory : spares_memory (command_of words) ≡ true → code ≡ status.NoMemory → new.streams ≡ old.streams
  -- the source is as it was if the words aren't a command that reads it, or the run ended before its items
  pub untouched : reads_input (command_of words) ≡ false → new.streams.input ≡ old.streams.input
  pub unread : (IsStepStatus code → ⊥) → new.streams.input ≡ old.streams.input

-- What a command promises of the outside before and after it: its pump isn't opened, or it is opened and drains.
abbrev pub CarriesOut : Command → Outside → Outside → Status → Type 0
CarriesOut command old new code =
    (Declines command (desk old) (desk new) code × (new.streams.input ≡ old.streams.input) × (new.streams.sinks.output ≡ old.streams.sinks.output))
    ⊎ ((job : Job) × JudgedAs command (desk old) (Ok job) × IsReady command job × (new.files ≡ old.files)
    × Drains (answering_of job) old.streams new.streams code × IsReadAs command job)
