-- What a run promises, by the ways in which it ends.
use Rattle.std.proofs.Common.{◌≡◌, ◌⊎◌, inl, inr, ℕ, true, false, List, [], Option, Some, refl, sym, subst}
use Rattle.std.specs.Io.KnownBytes.{Appends}
use Rattle.std.proofs.KnownBytes.{Appends-nil}
use Rattle.sbe_base.specs.Causes.{AppendsPart}
use Rattle.sbe_base.specs.declared.status.Status.{Status}
use Rattle.sbe_base.specs.declared.status.Status.TheVariants as status
use Rattle.command_words.specs.Words.{command_of}
use Rattle.command_steps.specs.Ends.{Outcome}
use Rattle.schema_files.specs.Refusals.{refusal_status}
use Rattle.sbe_base.specs.Objects.{Object, Failed}
use Rattle.replies.specs.Outside.{Wrote, Calm}
use Rattle.sbe_cli.specs.Outside.{Outside}
use Rattle.command_steps.specs.Steps.{IsStepStatus, IsReported}
use Rattle.sbe_cli.specs.Jobs.{reads_input, spares_memory}
use Rattle.sbe_cli.specs.Runs.{Known, WhenKnown, SinkFailed, written_in, Reports, StandsAtRead, StandsAtWrite, StandsAtFile, Fronts, HasRead, Runs}
use Rattle.schema_files.specs.declared.files.FileRefusal.{FileRefusal}
use Rattle.schema_files.specs.declared.files.FileRefusal.TheVariants.{Absent, TooLong, Unread, Broken, SameId, FormDiffers, NoMap, NotAnExtension}
use Rattle.sbe_cli.proofs.Reporting.{one_report}
use Rattle.command_steps.proofs.Standing.{whole_part}

-- ---- statuses apart

-- a reported status is no fault
pub no_fault : (code bad : Status) → IsReported code → (IsReported bad → ⊥) → code ≡ bad → ⊥
no_fault code bad r never e = never (subst IsReported e r)

-- ---- a run by its status

module _ (words : List (List ℕ)) (old new : Outside) where
  -- the source is as it was, or the words are a command that reads it
  pub record Touched (code : Status) : Type 0 where
    pub untouched : reads_input (command_of words) ≡ false → new.streams.input ≡ old.streams.input
    pub unread : (IsStepStatus code → ⊥) → new.streams.input ≡ old.streams.input

  -- the fronts, where there is a report
  reported_fronts : (code : Status) → Reports words old new code → Fronts words old new
  reported_fronts code reports contents input outcome known report =
      let r = reports contents input known in
      let same : r.0 ≡ outcome = one_report contents input words r.0 outcome r.1 report in
      let wrote : Wrote old.streams.sinks new.streams.sinks (written_in outcome) = subst (λ (o : Outcome). Wrote old.streams.sinks new.streams.sinks (written_in o)) same r.3 in
      (whole_part old.streams.sinks.output.told new.streams.sinks.output.told outcome.output wrote.output, inl (whole_part old.streams.sinks.notes.told new.streams.sinks.notes.told outcome.notes wrote.notes))

  pub runs_reported : (code : Status) → IsReported code → Reports words old new code → (new.files.faults ≡ old.files.faults) × Calm old.streams new.streams →
      (reads_input (command_of words) ≡ true → HasRead code → (input : List ℕ) → old.streams.input.told ≡ Some input → new.streams.input.told ≡ Some []) → Touched code → Runs words old new code
  runs_reported code r reports calm read touched = record {
    report = λ x. reports;
    calm = λ x. calm;
    read = read;
    file_fault = λ e. absurd (no_fault code status.FileFault r (λ x. x) e);
    read_fault = λ e. absurd (no_fault code status.ReadFault r (λ x. x) e);
    write_fault = λ e. absurd (no_fault code status.WriteFault r (λ x. x) e);
    file_stands = λ e. absurd (no_fault code status.FileFault r (λ x. x) e);
    read_stands = λ e. absurd (no_fault code status.ReadFault r (λ x. x) e);
    write_stands = λ e. absurd (no_fault code status.WriteFault r (λ x. x) e);
    fronts = reported_fronts code reports;
    memory = λ takes e. absurd (no_fault code status.NoMemory r (λ x. x) e);
    untouched = touched.untouched;
    unread = touched.unread;
  }

  -- what a status of a run that was cut short asks for
  record CutShort (code : Status) : Type 0 where
    never : IsReported code → ⊥
    file : code ≡ status.FileFault → Failed old.files new.files × StandsAtFile words old new
    read : code ≡ status.ReadFault → Failed old.streams.input new.streams.input × WhenKnown old (λ contents input. StandsAtRead words old new contents)
    write : code ≡ status.WriteFault → SinkFailed old new × WhenKnown old (λ contents input. StandsAtWrite words old new contents input)
    memory : spares_memory (command_of words) ≡ true → code ≡ status.NoMemory → new.streams ≡ old.streams

  -- a run that was cut short is no report
  runs_cut : (code : Status) → CutShort code → Fronts words old new → Touched code → Runs words old new code
  runs_cut code cut fronts touched = record {
    report = λ x. absurd (cut.never x);
    calm = λ x. absurd (cut.never x);
    read = λ takes h. absurd (cut.never (elim h [ inl e ↦ subst IsReported (sym e) tt | inr e ↦ subst IsReported (sym e) tt ]));
    file_fault = λ e. (cut.file e).0;
    read_fault = λ e. (cut.read e).0;
    write_fault = λ e. (cut.write e).0;
    file_stands = λ e. (cut.file e).1;
    read_stands = λ e. (cut.read e).1;
    write_stands = λ e. (cut.write e).1;
    fronts = fronts;
    memory = cut.memory;
    untouched = touched.untouched;
    unread = touched.unread;
  }

  pub runs_file : Failed old.files new.files → StandsAtFile words old new → Fronts words old new → Touched status.FileFault
      → Runs words old new status.FileFault
  runs_file failed_so stands fronts touched =
      runs_cut status.FileFault (record { never = λ x. x; file = λ e. (failed_so, stands); read = λ e. cc; write = λ e. cc; memory = λ takes e. cc }) fronts touched

  pub runs_read : Failed old.streams.input new.streams.input → WhenKnown old (λ contents input. StandsAtRead words old new contents)
      → Fronts words old new → Touched status.ReadFault → Runs words old new status.ReadFault
  runs_read failed_so stands fronts touched =
      runs_cut status.ReadFault (record { never = λ x. x; file = λ e. cc; read = λ e. (failed_so, stands); write = λ e. cc; memory = λ takes e. cc }) fronts touched

  pub runs_write : SinkFailed old new → WhenKnown old (λ contents input. StandsAtWrite words old new contents input)
      → Fronts words old new → Touched status.WriteFault → Runs words old new status.WriteFault
  runs_write failed_so stands fronts touched =
      runs_cut status.WriteFault (record { never = λ x. x; file = λ e. cc; read = λ e. cc; write = λ e. (failed_so, stands); memory = λ takes e. cc }) fronts touched

  pub runs_wanting : Fronts words old new → (spares_memory (command_of words) ≡ true → new.streams ≡ old.streams) → Touched status.NoMemory
      → Runs words old new status.NoMemory
  runs_wanting fronts memory touched =
      runs_cut status.NoMemory (record { never = λ x. x; file = λ e. cc; read = λ e. cc; write = λ e. cc; memory = λ takes e. memory takes }) fronts touched

-- ---- a pump that isn't opened

-- a status that only a refusal has
pub refused_apart : (refusal : FileRefusal) → (IsStepStatus (refusal_status refusal) → ⊥) × IsReported (refusal_status refusal) × (HasRead (refusal_status refusal) → ⊥)
refused_apart Absent = (λ x. x, tt, λ h. elim h [ inl e ↦ cc | inr e ↦ cc ])
refused_apart TooLong = (λ x. x, tt, λ h. elim h [ inl e ↦ cc | inr e ↦ cc ])
refused_apart (Unread cause path) = (λ x. x, tt, λ h. elim h [ inl e ↦ cc | inr e ↦ cc ])
refused_apart (Broken rule path) = (λ x. x, tt, λ h. elim h [ inl e ↦ cc | inr e ↦ cc ])
refused_apart SameId = (λ x. x, tt, λ h. elim h [ inl e ↦ cc | inr e ↦ cc ])
refused_apart FormDiffers = (λ x. x, tt, λ h. elim h [ inl e ↦ cc | inr e ↦ cc ])
refused_apart (NoMap code path) = (λ x. x, tt, λ h. elim h [ inl e ↦ cc | inr e ↦ cc ])
refused_apart (NotAnExtension path) = (λ x. x, tt, λ h. elim h [ inl e ↦ cc | inr e ↦ cc ])

-- nothing went to the output
pub nothing_out : (old new : Outside) (outcome : Outcome) → new.streams.sinks.output ≡ old.streams.sinks.output → AppendsPart old.streams.sinks.output.told new.streams.sinks.output.told outcome.output
nothing_out old new outcome same = ([], outcome.output, refl, subst (λ (o : Object (List ℕ)). Appends old.streams.sinks.output.told o.told []) (sym same) (Appends-nil old.streams.sinks.output.told))
