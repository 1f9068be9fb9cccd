-- What a step over lines answers: its status, and the counts of faults.
use Rattle.std.proofs.Common.{◌≡◌, inl, inr, ℕ, List, length, Option, Some, None, Result, Ok, Err, refl, sym, subst}
use Rattle.std.specs.Prelude.{IfSome, nat_lt}
use Rattle.sbe_base.specs.declared.status.Limits.{Limits}
use Rattle.sbe_base.specs.declared.status.Status.{Status}
use Rattle.sbe_base.specs.declared.status.Status.TheVariants as status
use Rattle.frame_stream.specs.declared.lines.LineEnded.{LineEnded}
use Rattle.frame_stream.specs.declared.lines.LineEnded.TheVariants as ended
use Rattle.frame_stream.specs.declared.lines.LineTaken.{LineTaken}
use Rattle.frame_stream.specs.declared.lines.LineTaken.TheVariants as taken
use Rattle.frame_stream.specs.declared.lines.LineErr.{LineErr}
use Rattle.frame_stream.specs.declared.lines.LineErr.TheVariants as err
use Rattle.frame_stream.specs.LineTakes.{LineState, line_bytes, line_end_answer, TakesLine, LineCause}
use Rattle.command_steps.specs.Splits.{End}
use Rattle.command_steps.specs.Ahead.{Follows}
use Rattle.replies.specs.Reply.{Reply, written_of}
use Rattle.command_steps.specs.Ends.{end_notes, end_status, done_status, stop_line, stop_status}
use Rattle.sbe_base.specs.Objects.{Failed}
use Rattle.replies.specs.Outside.{Streams, Breaks, NotesLine}
use Rattle.command_steps.specs.Steps.{Moment, running, Halts, failed_at, wanting_at, Causes, Answers}
use Rattle.command_steps.specs.Stands.{StandsLines, lines_ahead}
use Rattle.command_steps.specs.Replies.{Answering, by_lines, Replied}
use Rattle.replies.specs.declared.verdict.Verdict.{Verdict}
use Rattle.command_steps.specs.declared.kept.Kept.{Kept}
use Rattle.command_steps.specs.declared.end.Stop.{Stop}
use Rattle.command_steps.specs.declared.end.Stop.TheVariants as stop
use Rattle.command_steps.proofs.Closing.{IsEnd, done_is, end_causes, read_causes, break_causes, want_causes}
use Rattle.command_steps.proofs.LineStepping.{line_piece_end, ends, ends_again, stalls_at, fails, goes}

-- a status of an end of lines is a step's, and no fault
end_is : (e : LineEnded) (refused : ℕ) → IsEnd (end_status (line_piece_end e) refused)
end_is ended.End refused = done_is (nat_lt 0 refused)
end_is ended.Over refused = record { step = tt; memory = λ h. cc; write = λ h. cc; read = λ h. cc }
end_is ended.Limit refused = record { step = tt; memory = λ h. cc; write = λ h. cc; read = λ h. cc }

-- ---- a stream that runs, or has met the end

-- an answer that is no end comes of a stream that runs
pub runs_at : (limits : Limits) (kept : Kept) (st : LineState) (result : Result LineTaken LineErr) → StandsLines limits st kept → IfSome st.ended (λ e. result ≡ line_end_answer e) → (result ≡ Ok taken.End → ⊥) → st.ended ≡ None
runs_at limits kept st result stands stays other = elim stands.runs [
  | inl none ↦ none
  | inr met ↦ absurd (other (subst (λ (o : Option LineEnded). IfSome o (λ e. result ≡ line_end_answer e)) met stays))
]

module _ (limits : Limits) (last_line : Kept → List ℕ) (IsAnswer : Kept → List ℕ → Reply → Type 0) (kept : Kept) (before after : Streams) (st st' : LineState) (stands : StandsLines limits st kept) where
  abbrev on : Answering
  on = by_lines limits.input last_line IsAnswer

  abbrev pump : Moment
  pump = running kept (lines_ahead st)

  closed : (code : Status) → ((input : List ℕ) → Follows (lines_ahead st) before.input.told input → Halts on pump before after input code) → Causes before after code → Answers on pump (lines_ahead st') before after (Err code)
  closed code halts causes = record { halts = halts; causes = causes; kept = refl; memory = λ e. refl; unread = λ none. cc }

  -- the end of the input
  pub closed_end : (code : Status) → (st.ended ≡ None → TakesLine st st' before.input.told after.input.told (Ok taken.End)) → (st.ended ≡ Some ended.End → after.input ≡ before.input) → after.input.faults ≡ before.input.faults →
      after.sinks.output ≡ before.sinks.output → NotesLine (last_line kept) (done_status kept.refused) before.sinks.notes after.sinks.notes code → Answers on pump (lines_ahead st') before after (Err code)
  closed_end code takes unread input output told =
      closed code (λ i follows. elim stands.runs [
        | inl none ↦ ends limits last_line IsAnswer kept st st' stands before after code ended.End i (takes none) output told follows
        | inr met ↦ ends_again limits last_line IsAnswer kept st st' stands before after code i met (unread met) output told follows
      ]) (end_causes before after code (last_line kept) (end_status End kept.refused) (end_is ended.End kept.refused) input output told)

  -- an end that is noted
  pub closed_with : (e : LineEnded) (s : Stop) (code : Status) → TakesLine st st' before.input.told after.input.told (line_end_answer e) → after.input.faults ≡ before.input.faults → after.sinks.output ≡ before.sinks.output →
      stop_line s ≡ end_notes on (line_piece_end e) kept → stop_status s ≡ end_status (line_piece_end e) kept.refused →
      NotesLine (stop_line s) (stop_status s) before.sinks.notes after.sinks.notes code → Answers on pump (lines_ahead st') before after (Err code)
  closed_with e s code takes input output line last told =
      let heard : NotesLine (end_notes on (line_piece_end e) kept) (end_status (line_piece_end e) kept.refused) before.sinks.notes after.sinks.notes code =
      subst (λ (c : Status). NotesLine (end_notes on (line_piece_end e) kept) c before.sinks.notes after.sinks.notes code) last (subst (λ l. NotesLine l (stop_status s) before.sinks.notes after.sinks.notes code) line told) in
      closed code (λ i follows. ends limits last_line IsAnswer kept st st' stands before after code e i takes output heard follows)
      (end_causes before after code (end_notes on (line_piece_end e) kept) (end_status (line_piece_end e) kept.refused) (end_is e kept.refused) input output heard)

  module _ (runs : st.ended ≡ None) where
    -- a read that failed
    pub closed_read : (code : Status) → TakesLine st st' before.input.told after.input.told (Err err.ReadFault) → LineCause before.input.faults after.input.faults (Err err.ReadFault) → after.sinks.output ≡ before.sinks.output →
        NotesLine (stop_line (stop.ReadFault st'.taken)) status.ReadFault before.sinks.notes after.sinks.notes code → Answers on pump (lines_ahead st') before after (Err code)
    closed_read code takes cause output told =
        let fault : Failed before.input after.input = record { rose = cause.1; later = cause.0 } in
        closed code (λ i follows. stalls_at limits last_line IsAnswer kept st st' stands before after code i runs takes fault output told follows)
        (read_causes before after code (stop_line (stop.ReadFault st'.taken)) fault told)

    module _ (takes : TakesLine st st' before.input.told after.input.told (Ok taken.Line)) (input : after.input.faults ≡ before.input.faults) where
      -- a line whose answer is written
      pub went : (verdict : Verdict) → Replied (length st'.line) (IsAnswer kept st'.line) before.sinks after.sinks (Ok verdict) → Answers on pump (lines_ahead st') before after (Ok (record { bytes = line_bytes st'; verdict = verdict }))
      went verdict (reply, replied, parts, wrote) =
          subst (λ (v : Verdict). Answers on pump (lines_ahead st') before after (Ok (record { bytes = line_bytes st'; verdict = v }))) (sym wrote.1)
          (goes limits last_line IsAnswer kept st st' stands before after status.Done runs takes reply replied wrote.0.0 (record { input = input; output = wrote.0.1; notes = wrote.0.2 }))

      -- the same where the stream has stood since, and its bytes are counted
      pub went_so : (now : LineState) (bytes : ℕ) (verdict : Verdict) → now ≡ st' → bytes ≡ line_bytes now → Replied (length st'.line) (IsAnswer kept st'.line) before.sinks after.sinks (Ok verdict) →
          Answers on pump (lines_ahead now) before after (Ok (record { bytes = bytes; verdict = verdict }))
      went_so now bytes verdict same size wrote =
          subst (λ n. Answers on pump (lines_ahead now) before after (Ok (record { bytes = n; verdict = verdict }))) (sym size)
          (subst (λ (s : LineState). Answers on pump (lines_ahead s) before after (Ok (record { bytes = line_bytes s; verdict = verdict }))) (sym same) (went verdict wrote))

      -- a line whose answer is written in part, or wants memory
      pub stopped : (code : Status) → Replied (length st'.line) (IsAnswer kept st'.line) before.sinks after.sinks (Err code) → Answers on pump (lines_ahead st') before after (Err code)
      stopped code (reply, replied, parts, d) = elim d [
        | inl b ↦ closed code (λ i follows. failed_at (fails limits last_line IsAnswer kept st st' stands before after status.WriteFault runs takes reply replied i (λ r. Breaks before.sinks after.sinks (written_of r)) b.1 follows) b.0)
            (break_causes before after code (written_of reply) b.0 b.1)
        | inr w ↦ closed code (λ i follows. wanting_at (fails limits last_line IsAnswer kept st st' stands before after status.NoMemory runs takes reply replied i (λ r. after.sinks ≡ before.sinks) w.1 follows) w.0)
            (want_causes before after code w.0)
      ]

      pub stopped_so : (now : LineState) (code : Status) → now ≡ st' → Replied (length st'.line) (IsAnswer kept st'.line) before.sinks after.sinks (Err code) → Answers on pump (lines_ahead now) before after (Err code)
      stopped_so now code same d = subst (λ (s : LineState). Answers on pump (lines_ahead s) before after (Err code)) (sym same) (stopped code d)
