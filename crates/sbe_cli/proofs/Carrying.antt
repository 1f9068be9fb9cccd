-- A run that carried out a job, by its status.
use Rattle.std.proofs.Common.{◌≡◌, inl, inr, ℕ, Bool, true, false, cond, List, [], ◌∷◌, ◌++◌, Option, Some, Result, Ok, refl, sym, ap, ◌∙◌, subst}
use Rattle.std.specs.Prelude.{nat_lt}
use Rattle.sbe_base.proofs.Known.{appends_more}
use Rattle.sbe_base.specs.Causes.{AppendsPart}
use Rattle.sbe_base.specs.declared.status.Status.{Status}
use Rattle.sbe_base.specs.declared.status.Status.TheVariants as status
use Rattle.command_words.specs.Words.{command_of}
use Rattle.command_steps.specs.Splits.{is_read, PieceEnd, End, EndInside, HeadFault, LineOver, InputLimit}
use Rattle.replies.specs.Reply.{Written, Reply, written_of, then_written}
use Rattle.command_steps.specs.Ends.{Outcome, end_status}
use Rattle.sbe_cli.specs.Report.{JobReport, JudgedReport, CommandReport, Report}
use Rattle.replies.specs.Outside.{Sinks, Wrote, Breaks, NotesLine, noted, failed}
use Rattle.sbe_cli.specs.Outside.{Outside}
use Rattle.sbe_cli.specs.Jobs.{Job, answering_of, reading_of, IsReadAs, reads_input, spares_memory}
use Rattle.sbe_cli.specs.Opens.{JudgedAs}
use Rattle.command_steps.specs.Steps.{IsReported, running, Ends, Stalls, Fails, ended_at, stalled_at, failed_at, wanting_at, Course, Drains}
use Rattle.sbe_cli.specs.Runs.{desk, Known, IsJob, written_in, read_line, AllAnswered, StandsAtRead, StandsAtWrite, at_reply, at_end, at_read, NotesPart, Fronts, HasRead, Runs}
use Rattle.schema_files.specs.declared.files.RefusedFile.{RefusedFile}
use Rattle.command_words.specs.declared.words.Command.{Command}
use Rattle.command_steps.specs.Replies.{Answering}
use Rattle.command_steps.proofs.Folding.{AnswersOnce}
use Rattle.sbe_cli.proofs.Judging.{judging}
use Rattle.sbe_cli.proofs.Reporting.{one_report}
use Rattle.command_steps.proofs.Running.{failed_since}
use Rattle.command_steps.proofs.Standing.{whole_part, part_of, reported_told, Leading, leading, all_written, is_report, output_whole, notes_part, reported, given, whole_given, was_given, line_told, answers_written, line_part, begun_last, replied_last, broken_output, broken_notes}
use Rattle.sbe_cli.proofs.Finishing.{no_fault, Touched, runs_reported, runs_read, runs_write, runs_wanting}

-- ---- the statuses of the ends

-- the pieces end with nothing left where all was answered
end_read : (end : PieceEnd) (refused : ℕ) (code : Status) → code ≡ end_status end refused → HasRead code → end ≡ End
end_read End refused code e h = refl
end_read (EndInside n) refused code e h = elim (subst HasRead e h) [ inl d ↦ cc | inr d ↦ cc ]
end_read (HeadFault f) refused code e h = elim (subst HasRead e h) [ inl d ↦ cc | inr d ↦ cc ]
end_read LineOver refused code e h = elim (subst HasRead e h) [ inl d ↦ cc | inr d ↦ cc ]
end_read InputLimit refused code e h = elim (subst HasRead e h) [ inl d ↦ cc | inr d ↦ cc ]

-- no end has the status of a read fault
done_no_read : (t : Bool) → status.ReadFault ≡ cond t status.SomeRefused status.Done → ⊥
done_no_read true e = cc
done_no_read false e = cc

end_no_read : (end : PieceEnd) (refused : ℕ) → status.ReadFault ≡ end_status end refused → ⊥
end_no_read End refused e = done_no_read (nat_lt 0 refused) e
end_no_read (EndInside n) refused e = cc
end_no_read (HeadFault f) refused e = cc
end_no_read LineOver refused e = cc
end_no_read InputLimit refused e = cc

-- ---- a run of a job

module _ (words : List (List ℕ)) (old new : Outside) (command : Command) (is_command : command_of words ≡ Some command) (job : Job) (judged : JudgedAs command (desk old) (Ok job)) (as_command : IsReadAs command job) where
  abbrev on : Answering
  on = answering_of job

  placed : (contents : List ℕ → Option (List ℕ)) → old.files.told ≡ Some contents → AnswersOnce on
  placed contents told = (judging command contents).answers job (judged contents told)

  -- the job takes something of the input exactly where the words say so
  reads : reads_input (command_of words) ≡ is_read (reading_of job)
  reads = ap reads_input is_command ∙ sym as_command.0

  -- and frames
  reads_so : spares_memory (command_of words) ≡ on.spares
  reads_so = ap spares_memory is_command ∙ sym as_command.1

  is_job : (contents : List ℕ → Option (List ℕ)) (input : List ℕ) → Known old contents input → IsJob words contents job
  is_job contents input known = (command, is_command, judged contents known.files)

  as_report : (contents : List ℕ → Option (List ℕ)) (input : List ℕ) (outcome : Outcome) → Known old contents input → JobReport job input outcome → Report words contents input outcome
  as_report contents input outcome known h = subst (λ (c : Option Command). CommandReport c contents input outcome) (sym is_command) (Ok job, judged contents known.files, h)

  of_report : (contents : List ℕ → Option (List ℕ)) (input : List ℕ) (outcome : Outcome) → Known old contents input → Report words contents input outcome → JobReport job input outcome
  of_report contents input outcome known h =
      let r = subst (λ (c : Option Command). CommandReport c contents input outcome) is_command h in
      subst (λ (j : Result Job RefusedFile). JudgedReport j input outcome) ((judging command contents).once r.0 (Ok job) r.1 (judged contents known.files)) r.2

  module _ (code : Status) (drains : Drains on old.streams new.streams code) where
    touched_by : Touched words old new code
    touched_by = record { untouched = λ none. drains.unread (sym reads ∙ none); unread = λ e. absurd (e drains.causes.late) }

    -- ---- the fronts

    module _ (contents : List ℕ → Option (List ℕ)) (input : List ℕ) (known : Known old contents input) where
      abbrev course : Course on old.streams new.streams input code
      course = drains.course input known.source

      abbrev written : Written
      written = course.progress.written

      abbrev AreFronts : Outcome → Type 0
      AreFronts outcome = AppendsPart old.streams.sinks.output.told new.streams.sinks.output.told outcome.output × NotesPart words old new outcome.notes

      led : (outcome : Outcome) → JobReport job input outcome → Leading written outcome
      led outcome report = leading on (placed contents known.files) input outcome report course.ahead course.progress.pieces course.progress.left written course.kept course.progress.begins course.progress.replies

      ended_fronts : (outcome : Outcome) → Report words contents input outcome → Ends on (running course.kept course.ahead) course.mid new.streams course.progress.left code → AreFronts outcome
      ended_fronts outcome report ends =
          let whole = all_written on (running course.kept course.ahead) old.streams course.mid new.streams input course.progress code ends in
          let mine = as_report contents input whole known (is_report on (running course.kept course.ahead) old.streams course.mid new.streams input course.progress code ends) in
          let same : whole ≡ outcome = one_report contents input words whole outcome mine report in
          subst AreFronts same (
            whole_part old.streams.sinks.output.told new.streams.sinks.output.told whole.output (output_whole on (running course.kept course.ahead) old.streams course.mid new.streams input course.progress code ends),
            inl (notes_part on (running course.kept course.ahead) old.streams course.mid new.streams input course.progress code ends),
          )

      stalled_fronts : (outcome : Outcome) → Report words contents input outcome → Stalls on (running course.kept course.ahead) course.mid new.streams course.progress.left code → AreFronts outcome
      stalled_fronts outcome report stalls =
          let front = led outcome (of_report contents input outcome known report) in
          let taken = given on (running course.kept course.ahead) old.streams course.mid new.streams input course.progress code stalls in (
            part_of old.streams.sinks.output.told new.streams.sinks.output.told written.output front.output outcome.output
                (whole_part old.streams.sinks.output.told new.streams.sinks.output.told written.output (answers_written on (running course.kept course.ahead) old.streams course.mid new.streams input course.progress code stalls)) front.output_is,
            inr (
              written.notes,
              front.notes,
              read_line taken,
              front.notes_is,
              inr (failed_since course.calm.input stalls.fault, (taken, was_given on (running course.kept course.ahead) old.streams course.mid new.streams input course.progress code stalls known.source, refl)),
              line_part on (running course.kept course.ahead) old.streams course.mid new.streams input course.progress code stalls,
            ),
          )

      failed_fronts : (outcome : Outcome) → Report words contents input outcome →
          Fails on (running course.kept course.ahead) new.streams course.progress.left (λ reply. Breaks course.mid.sinks new.streams.sinks (written_of reply)) → AreFronts outcome
      failed_fronts outcome report fail =
          let last = λ (reply : Reply). Breaks course.mid.sinks new.streams.sinks (written_of reply) in
          let all = then_written written (written_of fail.reply) in
          let front = leading on (placed contents known.files) input outcome (of_report contents input outcome known report) fail.ahead (course.progress.pieces ++ fail.piece ∷ []) fail.left all _
          (begun_last on (running course.kept course.ahead) old.streams course.mid new.streams input course.progress code last fail) (replied_last on (running course.kept course.ahead) old.streams course.mid new.streams input course.progress code last fail) in (
            part_of old.streams.sinks.output.told new.streams.sinks.output.told all.output front.output outcome.output
                (broken_output on (running course.kept course.ahead) old.streams course.mid new.streams input course.progress code (written_of fail.reply) fail.wrote) front.output_is,
            inl (part_of old.streams.sinks.notes.told new.streams.sinks.notes.told all.notes front.notes outcome.notes
                (broken_notes on (running course.kept course.ahead) old.streams course.mid new.streams input course.progress code (written_of fail.reply) fail.wrote) front.notes_is),
          )

      wanting_fronts : (outcome : Outcome) → Report words contents input outcome → new.streams.sinks ≡ course.mid.sinks → AreFronts outcome
      wanting_fronts outcome report same =
          let front = led outcome (of_report contents input outcome known report) in
          let wrote : Wrote old.streams.sinks new.streams.sinks written = subst (λ (s : Sinks). Wrote old.streams.sinks s written) (sym same) course.progress.wrote in (
            part_of old.streams.sinks.output.told new.streams.sinks.output.told written.output front.output outcome.output (whole_part old.streams.sinks.output.told new.streams.sinks.output.told written.output wrote.output) front.output_is,
            inl (part_of old.streams.sinks.notes.told new.streams.sinks.notes.told written.notes front.notes outcome.notes (whole_part old.streams.sinks.notes.told new.streams.sinks.notes.told written.notes wrote.notes) front.notes_is),
          )

      fronts_of : (outcome : Outcome) → Report words contents input outcome → AreFronts outcome
      fronts_of outcome report = elim course.halts [
        | ended_at e ↦ ended_fronts outcome report e
        | stalled_at s ↦ stalled_fronts outcome report s
        | failed_at f c ↦ failed_fronts outcome report f
        | wanting_at f c ↦ wanting_fronts outcome report f.wrote
      ]

      -- ---- the report

      reports_by : IsReported code → (outcome : Outcome) × Report words contents input outcome × (code ≡ outcome.status) × Wrote old.streams.sinks new.streams.sinks (written_in outcome)
      reports_by r = elim course.halts [
        | ended_at e ↦
            let whole = all_written on (running course.kept course.ahead) old.streams course.mid new.streams input course.progress code e in
            let told = reported on (running course.kept course.ahead) old.streams course.mid new.streams input course.progress code e r in
            (whole, as_report contents input whole known (is_report on (running course.kept course.ahead) old.streams course.mid new.streams input course.progress code e), told.0, told.1)
        | stalled_at s ↦ absurd (no_fault code status.ReadFault r (λ x. x) (reported_told _ _ course.mid.sinks.notes new.streams.sinks.notes code s.noted r).0)
        | failed_at f c ↦ absurd (no_fault code status.WriteFault r (λ x. x) c)
        | wanting_at f c ↦ absurd (no_fault code status.NoMemory r (λ x. x) c)
      ]

      -- ---- what stands after a fault

      answered : (s : Stalls on (running course.kept course.ahead) course.mid new.streams course.progress.left code) →
          AllAnswered words contents (given on (running course.kept course.ahead) old.streams course.mid new.streams input course.progress code s) written
      answered s = record {
        job = job;
        is_job = is_job contents input known;
        pieces = course.progress.pieces;
        whole = whole_given on (running course.kept course.ahead) old.streams course.mid new.streams input course.progress code s;
        kept = course.kept;
        replies = course.progress.replies;
      }

      stands_at_read : code ≡ status.ReadFault → StandsAtRead words old new contents
      stands_at_read is = elim course.halts [
        | ended_at e ↦ ended_apart e.end course.kept.refused e.noted
        | stalled_at s ↦ stalled s (line_told on (running course.kept course.ahead) old.streams course.mid new.streams input course.progress code s)
        | failed_at f c ↦ absurd (apart_write (sym is ∙ c))
        | wanting_at f c ↦ absurd (apart_want (sym is ∙ c))
      ]
        where
          apart_write : ◌≡◌ {A = Status} status.ReadFault status.WriteFault → ⊥
          apart_write k = cc

          apart_want : ◌≡◌ {A = Status} status.ReadFault status.NoMemory → ⊥
          apart_want k = cc

          ended_apart : {P : Type 0} {line : List ℕ} (end : PieceEnd) (refused : ℕ) → NotesLine line (end_status end refused) course.mid.sinks.notes new.streams.sinks.notes code → P
          ended_apart end refused told = elim told [
            | noted c a k ↦ absurd (end_no_read end refused (sym is ∙ c))
            | failed c p f ↦ absurd (apart_write (sym is ∙ c))
          ]

          stalled : (s : Stalls on (running course.kept course.ahead) course.mid new.streams course.progress.left code) →
              NotesLine (read_line (given on (running course.kept course.ahead) old.streams course.mid new.streams input course.progress code s)) status.ReadFault course.mid.sinks.notes new.streams.sinks.notes code → StandsAtRead words old new contents
          stalled s told = elim told [
            | noted c a k ↦ (
              given on (running course.kept course.ahead) old.streams course.mid new.streams input course.progress code s,
              written,
              was_given on (running course.kept course.ahead) old.streams course.mid new.streams input course.progress code s known.source,
              answered s,
              record {
                output = answers_written on (running course.kept course.ahead) old.streams course.mid new.streams input course.progress code s;
                notes = appends_more old.streams.sinks.notes.told course.mid.sinks.notes.told new.streams.sinks.notes.told written.notes _ course.progress.wrote.notes a;
              },
            )
            | failed c p f ↦ absurd (apart_write (sym is ∙ c))
          ]

      stands_at_write : code ≡ status.WriteFault → StandsAtWrite words old new contents input
      stands_at_write is = elim course.halts [
        | ended_at e ↦
            let whole = all_written on (running course.kept course.ahead) old.streams course.mid new.streams input course.progress code e in
            at_end whole (as_report contents input whole known (is_report on (running course.kept course.ahead) old.streams course.mid new.streams input course.progress code e))
            (output_whole on (running course.kept course.ahead) old.streams course.mid new.streams input course.progress code e) (notes_part on (running course.kept course.ahead) old.streams course.mid new.streams input course.progress code e)
        | stalled_at s ↦ at_read (given on (running course.kept course.ahead) old.streams course.mid new.streams input course.progress code s) written
            (was_given on (running course.kept course.ahead) old.streams course.mid new.streams input course.progress code s known.source) (answered s)
            (answers_written on (running course.kept course.ahead) old.streams course.mid new.streams input course.progress code s) (line_part on (running course.kept course.ahead) old.streams course.mid new.streams input course.progress code s)
        | failed_at f c ↦ at_reply (record {
          job = job;
          is_job = is_job contents input known;
          pieces = course.progress.pieces;
          last = f.piece;
          left = f.left;
          ahead = f.ahead;
          only_lines = f.only_lines;
          source = f.source;
          begins = begun_last on (running course.kept course.ahead) old.streams course.mid new.streams input course.progress code (λ reply. Breaks course.mid.sinks new.streams.sinks (written_of reply)) f;
          kept = course.kept;
          written = written;
          replies = course.progress.replies;
          reply = f.reply;
          replied = f.replied;
          mid = course.mid.sinks;
          whole = course.progress.wrote;
          part = f.wrote;
        })
        | wanting_at f c ↦ absurd (apart_want (sym is ∙ c))
      ]
        where
          apart_want : ◌≡◌ {A = Status} status.WriteFault status.NoMemory → ⊥
          apart_want k = cc

    fronts : Fronts words old new
    fronts contents input outcome known report = fronts_of contents input known outcome report

    -- nothing is left where all was answered
    read_all : IsReported code → reads_input (command_of words) ≡ true → HasRead code → (input : List ℕ) → old.streams.input.told ≡ Some input → new.streams.input.told ≡ Some []
    read_all r takes h input source =
        let course = drains.course input source in
        elim course.halts [
          | ended_at e ↦ e.left (sym reads ∙ takes) (end_read e.end course.kept.refused code (reported_told _ _ course.mid.sinks.notes new.streams.sinks.notes code e.noted r).0 h)
          | stalled_at s ↦ absurd (no_fault code status.ReadFault r (λ x. x) (reported_told _ _ course.mid.sinks.notes new.streams.sinks.notes code s.noted r).0)
          | failed_at f c ↦ absurd (no_fault code status.WriteFault r (λ x. x) c)
          | wanting_at f c ↦ absurd (no_fault code status.NoMemory r (λ x. x) c)
        ]

    runs_so : new.files ≡ old.files → IsReported code → Runs words old new code
    runs_so files r = runs_reported words old new code r (λ contents input known. reports_by contents input known r) (ap (λ o. o.faults) files, drains.causes.calm r) (read_all r) touched_by

  -- ---- by the status

  apart : ◌≡◌ {A = Bool} true false → ⊥
  apart e = cc

  pub carried : (code : Status) → new.files ≡ old.files → Drains on old.streams new.streams code → Runs words old new code
  carried status.Done files d = runs_so status.Done d files tt
  carried status.SomeRefused files d = runs_so status.SomeRefused d files tt
  carried status.FramingRefused files d = runs_so status.FramingRefused d files tt
  carried status.InputLimit files d = runs_so status.InputLimit d files tt
  carried status.ReadFault files d =
      runs_read words old new (d.causes.read refl) (λ contents input known. stands_at_read status.ReadFault d contents input known refl) (fronts status.ReadFault d) (touched_by status.ReadFault d)
  carried status.WriteFault files d =
      runs_write words old new (d.causes.write refl) (λ contents input known. stands_at_write status.WriteFault d contents input known refl) (fronts status.WriteFault d) (touched_by status.WriteFault d)
  carried status.NoMemory files d = runs_wanting words old new (fronts status.NoMemory d) (λ takes. absurd (apart (sym (sym reads_so ∙ takes) ∙ d.memory refl))) (touched_by status.NoMemory d)
  carried status.Usage files d = absurd d.causes.late
  carried status.SchemaRefused files d = absurd d.causes.late
  carried status.MapRefused files d = absurd d.causes.late
  carried status.FileFault files d = absurd d.causes.late
  carried status.NoFile files d = absurd d.causes.late
