-- A run that ended before its items.
use Rattle.std.proofs.Common.{◌≡◌, inl, inr, ℕ, List, [], Option, Some, None, Ok, Err, refl, sym, ap, ◌∙◌, subst}
use Rattle.std.specs.Io.KnownBytes.{Appends}
use Rattle.std.proofs.KnownBytes.{Appends-nil}
use Rattle.sbe_base.specs.Causes.{AppendsPart}
use Rattle.sbe_base.specs.declared.status.Status.{Status}
use Rattle.sbe_base.specs.declared.status.Status.TheVariants as status
use Rattle.command_words.specs.Words.{command_of}
use Rattle.command_steps.specs.Ends.{Outcome}
use Rattle.sbe_cli.specs.Report.{CommandReport, Report, only_noted}
use Rattle.sbe_cli.specs.Stops.{unopened_line, usage_line}
use Rattle.schema_files.specs.Refusals.{refusal_line, refusal_status}
use Rattle.sbe_base.specs.Objects.{Object, Failed}
use Rattle.replies.specs.Outside.{Streams, NotesLine, noted, failed}
use Rattle.sbe_cli.specs.Outside.{Outside}
use Rattle.command_steps.specs.Steps.{IsReported, Drains}
use Rattle.sbe_cli.specs.Jobs.{answering_of}
use Rattle.sbe_cli.specs.Opens.{PumpState, Opens, JudgedAs, Declines, refuses, fails, wants}
use Rattle.sbe_cli.specs.Runs.{desk, Known, NamesLoaded, at_end, at_file, NotesPart, Fronts, HasRead, Runs, CarriesOut}
use Rattle.schema_files.specs.declared.files.FileRole.{FileRole}
use Rattle.schema_files.specs.declared.files.RefusedFile.{RefusedFile}
use Rattle.sbe_cli.specs.declared.unopened.Unopened.TheVariants as unopened
use Rattle.command_words.specs.declared.words.Command.{Command}
use Rattle.sbe_cli.proofs.Reporting.{one_report}
use Rattle.command_steps.proofs.Standing.{whole_part}
use Rattle.sbe_cli.proofs.Carrying.{carried}
use Rattle.sbe_cli.proofs.Finishing.{Touched, runs_reported, runs_file, runs_write, runs_wanting, refused_apart, nothing_out}

-- ---- the streams by their parts

abbrev three_streams : Object (List ℕ) → Object (List ℕ) → Object (List ℕ) → Streams
three_streams i o n = record { input = i; sinks = record { output = o; notes = n } }

same_streams : (a b : Streams) → a.input ≡ b.input → a.sinks.output ≡ b.sinks.output → a.sinks.notes ≡ b.sinks.notes → a ≡ b
same_streams a b i o n =
    ap (λ (x : Object (List ℕ)). three_streams x a.sinks.output a.sinks.notes) i ∙ ap (λ (x : Object (List ℕ)). three_streams b.input x a.sinks.notes) o
    ∙ ap (λ (x : Object (List ℕ)). three_streams b.input b.sinks.output x) n

-- ---- before the items

module _ (words : List (List ℕ)) (old new : Outside) where
  nothing_noted : (notes : List ℕ) → new.streams.sinks.notes ≡ old.streams.sinks.notes → NotesPart words old new notes
  nothing_noted notes same = inl ([], notes, refl, subst (λ (o : Object (List ℕ)). Appends old.streams.sinks.notes.told o.told []) (sym same) (Appends-nil old.streams.sinks.notes.told))

  nothing_fronts : new.streams.sinks.output ≡ old.streams.sinks.output → new.streams.sinks.notes ≡ old.streams.sinks.notes → Fronts words old new
  nothing_fronts output notes contents input outcome known report = (nothing_out old new outcome output, nothing_noted outcome.notes notes)

  module _ (input : new.streams.input ≡ old.streams.input) where
    touched : (code : Status) → Touched words old new code
    touched code = record { untouched = λ x. input; unread = λ x. input }

    -- nothing was done: out of memory
    pub wanted_early : new.streams.sinks.output ≡ old.streams.sinks.output → new.streams.sinks.notes ≡ old.streams.sinks.notes → Runs words old new status.NoMemory
    wanted_early output notes = runs_wanting words old new (nothing_fronts output notes) (λ reads. same_streams new.streams old.streams input output notes) (touched status.NoMemory)

    no_output : new.streams.sinks.output ≡ old.streams.sinks.output → Appends old.streams.sinks.output.told new.streams.sinks.output.told []
    no_output output = subst (λ (o : Object (List ℕ)). Appends old.streams.sinks.output.told o.told []) (sym output) (Appends-nil old.streams.sinks.output.told)

    -- a line is all of the report
    module _ (line : List ℕ) (last : Status) (is : (contents : List ℕ → Option (List ℕ)) (bytes : List ℕ) → Known old contents bytes → Report words contents bytes (only_noted line last)) (output : new.streams.sinks.output ≡ old.streams.sinks.output) where
      line_fronts : AppendsPart old.streams.sinks.notes.told new.streams.sinks.notes.told line → Fronts words old new
      line_fronts part contents bytes outcome known report =
          let same : only_noted line last ≡ outcome = one_report contents bytes words (only_noted line last) outcome (is contents bytes known) report in
          (nothing_out old new outcome output, inl (subst (λ (o : Outcome). AppendsPart old.streams.sinks.notes.told new.streams.sinks.notes.told o.notes) same part))

      pub noted_early : (code : Status) → IsReported last → (HasRead last → ⊥) → new.files ≡ old.files → NotesLine line last old.streams.sinks.notes new.streams.sinks.notes code → Runs words old new code
      noted_early code r unread files told = elim told [
        | noted c a k ↦ subst (λ (s : Status). Runs words old new s) (sym c)
            (runs_reported words old new last r (λ contents bytes known. (only_noted line last, is contents bytes known, refl, record { output = no_output output; notes = a }))
            (ap (λ o. o.faults) files, record { input = ap (λ o. o.faults) input; output = ap (λ o. o.faults) output; notes = k }) (λ takes h. absurd (unread h)) (touched last))
        | failed c p f ↦ subst (λ (s : Status). Runs words old new s) (sym c)
            (runs_write words old new (inr f) (λ contents bytes known. at_end (only_noted line last) (is contents bytes known) (no_output output) p) (line_fronts p) (touched status.WriteFault))
      ]

    -- the files failed
    file_fronts : (role : FileRole) → NamesLoaded words old new role → Failed old.files new.files → new.streams.sinks.output ≡ old.streams.sinks.output →
        AppendsPart old.streams.sinks.notes.told new.streams.sinks.notes.told (unopened_line (unopened.FileFault role)) → Fronts words old new
    file_fronts role named f output part contents bytes outcome known report = (nothing_out old new outcome output, inr ([], outcome.notes, unopened_line (unopened.FileFault role), refl, inl (f, (role, named, refl)), part))

    pub file_failed : (code : Status) (role : FileRole) → NamesLoaded words old new role → Failed old.files new.files → new.streams.sinks.output ≡ old.streams.sinks.output →
        NotesLine (unopened_line (unopened.FileFault role)) status.FileFault old.streams.sinks.notes new.streams.sinks.notes code → Runs words old new code
    file_failed code role named f output told = elim told [
      | noted c a k ↦ subst (λ (s : Status). Runs words old new s) (sym c)
          (runs_file words old new f (record { role = role; named = named; input = input; wrote = record { output = no_output output; notes = a } })
          (file_fronts role named f output (whole_part old.streams.sinks.notes.told new.streams.sinks.notes.told (unopened_line (unopened.FileFault role)) a)) (touched status.FileFault))
      | failed c p g ↦ subst (λ (s : Status). Runs words old new s) (sym c)
          (runs_write words old new (inr g) (λ contents bytes known. at_file role named input output p) (file_fronts role named f output p) (touched status.WriteFault))
    ]

    -- the words are no command
    pub usage_early : (code : Status) → command_of words ≡ None → new.files ≡ old.files → new.streams.sinks.output ≡ old.streams.sinks.output →
        NotesLine usage_line status.Usage old.streams.sinks.notes new.streams.sinks.notes code → Runs words old new code
    usage_early code none files output told =
        noted_early usage_line status.Usage (λ contents bytes known. subst (λ (c : Option Command). CommandReport c contents bytes (only_noted usage_line status.Usage)) (sym none) refl)
        output code tt (λ h. elim h [ inl e ↦ cc | inr e ↦ cc ]) files told

    -- the command's pump isn't opened
    module _ (command : Command) (is_command : command_of words ≡ Some command) where
      refused_report : (file : RefusedFile) → JudgedAs command (desk old) (Err file) → (contents : List ℕ → Option (List ℕ)) (bytes : List ℕ) → Known old contents bytes →
          Report words contents bytes (only_noted (refusal_line file) (refusal_status file.why))
      refused_report file judged contents bytes known =
          subst (λ (c : Option Command). CommandReport c contents bytes (only_noted (refusal_line file) (refusal_status file.why))) (sym is_command) (Err file, judged contents known.files, refl)

      pub declined_early : (code : Status) → new.streams.sinks.output ≡ old.streams.sinks.output → Declines command (desk old) (desk new) code → Runs words old new code
      declined_early code output h = elim h [
        | refuses file judged last files told ↦
            let is = refused_apart file.why in
            noted_early (refusal_line file) (refusal_status file.why) (refused_report file judged) output code is.1 is.2 files told
        | fails role has last f told ↦ file_failed code role (command, is_command, has, last) f output told
        | wants c files notes ↦ subst (λ (x : Status). Runs words old new x) (sym c) (wanted_early output notes)
      ]

-- ---- a run of a command

pub runs_command : (words : List (List ℕ)) (old new : Outside) (command : Command) (code : Status) → command_of words ≡ Some command → CarriesOut command old new code → Runs words old new code
runs_command words old new command code is h = elim h [
  | inl d ↦ declined_early words old new d.1 command is code d.2 d.0
  | inr d ↦ carried words old new command is d.0 d.1 d.5 code d.3 d.4
]

-- a pump that was opened, and ran
pub opened_and_drained : (command : Command) (old mid new : Outside) (pump : PumpState) (code : Status) → Opens command (desk old) (desk mid) (Ok pump) → mid.streams.input ≡ old.streams.input →
    mid.streams.sinks.output ≡ old.streams.sinks.output → new.files ≡ mid.files → Drains (answering_of pump.job) mid.streams new.streams code → CarriesOut command old new code
opened_and_drained command old mid new pump code opens input output files drains =
    let same : mid.streams ≡ old.streams = same_streams mid.streams old.streams input output opens.4 in
    inr (pump.job, opens.0, opens.1, files ∙ opens.3, subst (λ (s : Streams). Drains (answering_of pump.job) s new.streams code) same drains, opens.5)
