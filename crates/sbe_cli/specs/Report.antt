-- What a run writes, and its status: one report for each command line, files and input.
use Rattle.std.specs.Prelude.{◌≡◌, ℕ, Option, Some, None, Result, Ok, Err, List, []}
use Rattle.sbe_base.specs.declared.status.Status.{Status}
use Rattle.sbe_base.specs.declared.status.Status.TheVariants as status
use Rattle.command_steps.specs.Ends.{Outcome, PiecesReport}
use Rattle.sbe_cli.specs.Jobs.{Job, answering_of, Judges}
use Rattle.sbe_cli.specs.Stops.{usage_line}
use Rattle.schema_files.specs.Refusals.{refusal_line, refusal_status}
use Rattle.command_words.specs.Words.{command_of}
use Rattle.schema_files.specs.declared.files.RefusedFile.{RefusedFile}
use Rattle.command_words.specs.declared.words.Command.{Command}

-- The pieces of the input are answered in order, and then its end is reported.
abbrev pub JobReport : Job → List ℕ → Outcome → Type 0
JobReport job input outcome = PiecesReport (answering_of job) input outcome

-- nothing is written except a line of the notes
abbrev pub only_noted : List ℕ → Status → Outcome
only_noted line code = record { output = []; notes = line; status = code }

-- The report of a job, or of the first refusal of its files.
abbrev pub JudgedReport : Result Job RefusedFile → List ℕ → Outcome → Type 0
JudgedReport (Ok job) input outcome = JobReport job input outcome
JudgedReport (Err file) input outcome = outcome ≡ only_noted (refusal_line file) (refusal_status file.why)

-- The report of a command, or of words that aren't one.
abbrev pub CommandReport : Option Command → (List ℕ → Option (List ℕ)) → List ℕ → Outcome → Type 0
CommandReport None contents input outcome = outcome ≡ only_noted usage_line status.Usage
CommandReport (Some command) contents input outcome = (judged : Result Job RefusedFile) × Judges command contents judged × JudgedReport judged input outcome

-- The output, the notes and the status for these words, files and input.
abbrev pub Report : List (List ℕ) → (List ℕ → Option (List ℕ)) → List ℕ → Outcome → Type 0
Report words contents input outcome = CommandReport (command_of words) contents input outcome
