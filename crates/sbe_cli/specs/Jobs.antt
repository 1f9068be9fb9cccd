-- The job of a command: what its files contain or why they are refused, and what it then answers.
use Rattle.std.specs.Prelude.{◌≡◌, ℕ, Bool, true, false, List, Option, Some, None, Result, Ok, Err, ⊤}
use Rattle.sbe_base.specs.declared.status.Limits.{Limits}
use Rattle.sbe_types.specs.declared.schema.WireSchema.{WireSchema}
use Rattle.dump_lines.specs.declared.schemas.Schemas.{Schemas}
use Rattle.command_files.specs.Files.{FilesOf, LoadsFiles}
use Rattle.schema_files.specs.Files.{loads_up_to, loads_with_map}
use Rattle.schema_files.specs.declared.files.FileRole.{FileRole}
use Rattle.schema_files.specs.declared.files.RefusedFile.{RefusedFile}
use Rattle.schema_files.specs.declared.files.JobStop.{JobStop}
use Rattle.command_words.specs.Words.{file_at}
use Rattle.command_words.specs.declared.words.Command.{Command}
use Rattle.command_words.specs.declared.forms.Form.{Form}
use Rattle.command_words.specs.declared.forms.Form.TheVariants as form
use Rattle.command_steps.specs.Splits.{Reading, is_read}
use Rattle.command_steps.specs.Replies.{Answering, by_frames, by_lines, by_whole, no_line}
use Rattle.check_command.specs.Check.{IsCheckReply, check_files}
use Rattle.coverage_command.specs.Coverage.{Pair as CoveragePair, IsCoverageReply, coverage_files}
use Rattle.compat_command.specs.Compat.{Pair, IsCompatReply, compat_files}
use Rattle.dump_command.specs.Dump.{IsDumpReply, dump_files}
use Rattle.build_command.specs.Builds.{Building, IsBuildReply, build_files}
use Rattle.tagvalue_codec.specs.declared.data_tags.Pair.{Pair as TagPair}
use Rattle.fixcheck_command.specs.FixCheck.{IsFixCheckReply, fixcheck_files}
use Rattle.tofix_command.specs.Bridges.{BridgeWords, Translating, bridge_of, head_in, tofix_files}
use Rattle.tofix_replies.specs.ToFix.{IsToFixReply}
use Rattle.tosbe_command.specs.Bridges.{BackBridge, tosbe_files}
use Rattle.tosbe_command.specs.ToSbe.{IsToSbeReply}
use Rattle.raw_steps.specs.RawReplies.{by_texts}
use Rattle.selftest_command.specs.declared.trial.Trial.{Trial}
use Rattle.selftest_command.specs.Tests.{Testing, IsSelftestReply, selftest_files}
use Rattle.regrade_command.specs.Regrade.{Regrading, IsRegradeReply, sums_line}
use Rattle.regrade_command.specs.Regrades.{regrade_files}

-- a command whose files are accepted
pub data Job : Type 0 where
  Check : WireSchema → Job
  Coverage : CoveragePair → Job
  Compat : Pair → Job
  Dump : Schemas → Limits → Job
  Build : Building → ℕ → Job
  FixCheck : List TagPair → Limits → Job
  ToFix : Translating → Limits → Job
  ToSbe : BackBridge → Limits → Job
  SelfTest : Testing → Job
  Regrade : Regrading → Limits → Job
  RawFrame : List TagPair → Limits → Job

-- How each job reads its input, and what it answers: one line for each command.
abbrev pub answering_of : Job → Answering
answering_of (Check schema) = by_whole (IsCheckReply schema)
answering_of (Coverage pair) = by_whole (IsCoverageReply pair)
answering_of (Compat pair) = by_whole (IsCompatReply pair)
answering_of (Dump schemas limits) = by_frames limits true no_line (IsDumpReply schemas)
answering_of (Build building input) = by_lines input no_line (IsBuildReply building)
answering_of (FixCheck tags limits) = by_frames limits true no_line (IsFixCheckReply tags)
answering_of (ToFix translating limits) = by_frames limits true no_line (IsToFixReply (bridge_of translating))
answering_of (ToSbe bridge limits) = by_frames limits false no_line (IsToSbeReply bridge)
answering_of (SelfTest test) = by_whole (IsSelftestReply test)
answering_of (Regrade on limits) = by_frames limits false sums_line (IsRegradeReply on)
answering_of (RawFrame tags limits) = by_texts tags limits

-- how a job reads its input
abbrev pub reading_of : Job → Reading
reading_of job = (answering_of job).reading

-- ---- the files

-- the result of files, and the job that accepted files make
abbrev pub Makes : {X : Type 0} → (Result X RefusedFile → Type 0) → (X → Job) → Result Job RefusedFile → Type 0
Makes {X} AreJudged make (Ok job) = (files : X) × AreJudged (Ok files) × (job ≡ make files)
Makes {X} AreJudged make (Err file) = AreJudged (Err file)

-- the same files, and the job that they make
abbrev pub making : {X : Type 0} → FilesOf X → (X → Job) → FilesOf Job
making {X} files make = record {
  AreJudged = λ contents. Makes (files.AreJudged contents) make;
  IsRole = files.IsRole;
  AreGood = λ job. (accepted : X) × files.AreGood accepted × (job ≡ make accepted);
}

-- A command's files with the job that they make, and how many loads it takes up to each; whether it takes anything of the input, and
-- whether it takes no memory once they are loaded.
pub record Commanding : Type 1 where
  pub files : FilesOf Job
  pub loads : FileRole → ℕ
  pub reads : Bool
  pub spares : Bool

-- a command that takes nothing from the input
abbrev pub on_files : FilesOf Job → Commanding
on_files files = record { files = files; loads = loads_up_to; reads = false; spares = false }

-- a command that reads the input
abbrev pub on_input : FilesOf Job → Commanding
on_input files = record { files = files; loads = loads_up_to; reads = true; spares = false }

-- a command that reads the input, and takes no memory meanwhile
abbrev pub on_input_sparing : FilesOf Job → Commanding
on_input_sparing files = record { files = files; loads = loads_up_to; reads = true; spares = true }

-- the same command, where its mapping follows its schema
abbrev pub with_map : Commanding → Commanding
with_map c = record { files = c.files; loads = loads_with_map; reads = c.reads; spares = c.spares }

-- The messages that a command draws, and the most bytes of their frames.
abbrev pub trial_of : Command → Trial
trial_of command = record { seed = command.draws.seed; count = command.draws.count; frame = command.limits.frame }

-- What the arguments give to the translation of messages.
abbrev pub tofix_words : Command → BridgeWords
tofix_words command =
    record { schema = file_at command 0; map = file_at command 1; also = command.also; head = head_in command.head; frame = command.limits.frame }

-- What a command of this form does: one line a form.
abbrev pub commanding_by : Form → Command → Commanding
commanding_by form.Check command = on_files (making (check_files (file_at command 0)) Check)
commanding_by form.Coverage command = with_map (on_files (making (coverage_files (file_at command 0) (file_at command 1)) Coverage))
commanding_by form.Compat command = on_files (making (compat_files (file_at command 0) (file_at command 1)) Compat)
commanding_by form.Dump command = on_input_sparing (making (dump_files (file_at command 0) command.also) (λ schemas. Dump schemas command.limits))
commanding_by form.Build command = on_input (making (build_files (file_at command 0) command.limits.frame) (λ building. Build building command.limits.input))
commanding_by form.FixCheck command = on_input_sparing (making (fixcheck_files (file_at command 0)) (λ tags. FixCheck tags command.limits))
commanding_by form.ToFix command =
    with_map (on_input_sparing (making (tofix_files (tofix_words command)) (λ translating. ToFix translating command.limits)))
commanding_by form.ToSbe command =
    with_map (on_input (making (tosbe_files (file_at command 0) (file_at command 1) command.limits.frame) (λ bridge. ToSbe bridge command.limits)))
commanding_by form.SelfTest command = on_files (making (selftest_files (file_at command 0) (trial_of command)) SelfTest)
commanding_by form.Regrade command =
    on_input (making (regrade_files (file_at command 0) (file_at command 1) command.limits.frame) (λ on. Regrade on command.limits))
commanding_by form.RawFrame command = on_input_sparing (making (fixcheck_files (file_at command 0)) (λ tags. RawFrame tags command.limits))

-- what a command does
abbrev pub commanding_of : Command → Commanding
commanding_of command = commanding_by command.form command

-- the files of a command
abbrev pub files_of : Command → FilesOf Job
files_of command = (commanding_of command).files

-- how many loads it takes up to each file
abbrev pub loads_of : Command → FileRole → ℕ
loads_of command = (commanding_of command).loads

-- whether a command takes anything of the input
abbrev pub reads_input : Option Command → Bool
reads_input None = false
reads_input (Some command) = (commanding_of command).reads

-- whether a command takes no memory once its files are loaded
abbrev pub spares_memory : Option Command → Bool
spares_memory None = false
spares_memory (Some command) = (commanding_of command).spares

-- The job of a command whose files are accepted, or the first refusal of a file.
abbrev pub Judges : Command → (List ℕ → Option (List ℕ)) → Result Job RefusedFile → Type 0
Judges command contents judged = (files_of command).AreJudged contents judged

-- the job is one that the command's accepted files make, and its schemas are in order
abbrev pub IsReady : Command → Job → Type 0
IsReady command job = (files_of command).AreGood job

-- a command has a file in this role
abbrev pub HasFile : Command → FileRole → Type 0
HasFile command role = (files_of command).IsRole role

-- ---- the loading

-- the job takes something from the input exactly if its command does, and takes no memory exactly if its command takes
-- none
abbrev pub IsReadAs : Command → Job → Type 0
IsReadAs command job = (is_read (reading_of job) ≡ reads_input (Some command)) × ((answering_of job).spares ≡ spares_memory (Some command))

-- a job, if there is one, reads what its command does
abbrev pub IsReadSo : Command → Result Job JobStop → Type 0
IsReadSo command (Ok job) = IsReadAs command job
IsReadSo command (Err stop) = ⊤

-- The files of a command are loaded, and make its job.
pub record LoadsJob (told : Option (List ℕ → Option (List ℕ))) (command : Command) (result : Result Job JobStop) : Type 0 where
  pub files : LoadsFiles (files_of command) told result
  pub reads : IsReadSo command result

-- the job that accepted files make
abbrev pub made_so : {X : Type 0} → (X → Job) → Result X JobStop → Result Job JobStop
made_so make (Ok files) = Ok (make files)
made_so make (Err stop) = Err stop
