-- What a step over the items of a stream answers: its status, and the counts of faults.
use Rattle.std.proofs.Common.{◌≡◌, ◌<◌, inl, inr, ℕ, Bool, true, false, List, [], length, Result, Ok, Err, refl, sym, ap, ◌∙◌, subst, arith}
use Rattle.std.specs.Prelude.{nat_lt, ◌^◌}
use Rattle.sbe_base.specs.declared.status.Limits.{Limits}
use Rattle.sbe_base.specs.declared.status.Status.{Status}
use Rattle.sbe_base.specs.declared.status.Status.TheVariants as status
use Rattle.sbe_base.specs.Objects.{Failed}
use Rattle.tagvalue_codec.specs.declared.data_tags.Pair.{Pair}
use Rattle.raw_fix.specs.declared.taken.RawTaken.TheVariants as taken
use Rattle.raw_fix.specs.declared.taken.RawErr.TheVariants as err
use Rattle.raw_fix.specs.declared.code.PCode.{PCode}
use Rattle.raw_fix.specs.Raw.{Garbled, Item, message}
use Rattle.raw_fix.specs.Stream.{RawState}
use Rattle.raw_fix.specs.Taking.{RawCause}
use Rattle.replies.specs.Drafts.{DeliversDraft}
use Rattle.replies.specs.Outside.{Streams, Breaks, NotesLine}
use Rattle.replies.specs.Reply.{written_of}
use Rattle.replies.specs.declared.verdict.Verdict.{Verdict}
use Rattle.command_steps.specs.Ahead.{Follows}
use Rattle.command_steps.specs.Replies.{HasParts, Wants, counted_by}
use Rattle.command_steps.specs.Stands.{IsBounded, CanCount}
use Rattle.command_steps.specs.Ends.{done_status, stop_line}
use Rattle.command_steps.specs.Steps.{Halts, failed_at, wanting_at, Causes, Answers}
use Rattle.command_steps.specs.declared.kept.Kept.{Kept}
use Rattle.command_steps.specs.declared.step.Tally.{Tally}
use Rattle.command_steps.specs.declared.end.Stop.TheVariants as stop
use Rattle.command_steps.proofs.Closing.{done_is, end_causes, read_causes, break_causes, want_causes, told_apart}
use Rattle.command_steps.proofs.Told.{answered_parts, refused_parts}
use Rattle.raw_steps.specs.RawReplies.{framed, noted}
use Rattle.raw_steps.specs.Stands.{StandsRaw, raw_ahead}
use Rattle.raw_steps.proofs.Stepping.{answering, pump, Takes, Took, reply, ends, ends_over, stalls_at, fails, goes, message_took, garbled_took, stands_on, countable}

module _ (tags : List Pair) (limits : Limits) (kept : Kept) (st st' : RawState) (stands : StandsRaw limits st kept) (before after : Streams) (unread : st.met ≡ true → after.input ≡ before.input) where
  -- what was answered
  abbrev pub Closed : Status → Type 0
  Closed code = Answers (answering tags limits kept st st' stands) (pump tags limits kept st st' stands) (raw_ahead st') before after (Err code)

  closed : (code : Status) → ((input : List ℕ) → Follows (raw_ahead st) before.input.told input → Halts (answering tags limits kept st st' stands) (pump tags limits kept st st' stands) before after input code) → Causes before after code →
      (code ≡ status.NoMemory → ◌≡◌ {A = Bool} true false) → Closed code
  closed code halts causes never = record { halts = halts; causes = causes; kept = refl; memory = never; unread = λ none. cc }

  -- the end of the input
  pub closed_end : (code : Status) → Takes tags limits kept st st' stands before after unread (Ok taken.End) → after.input.faults ≡ before.input.faults → after.sinks.output ≡ before.sinks.output →
      NotesLine [] (done_status kept.refused) before.sinks.notes after.sinks.notes code → Closed code
  closed_end code takes input output told =
      closed code (λ i f. ends tags limits kept st st' stands before after unread code i takes output told f)
      (end_causes before after code [] (done_status kept.refused) (done_is (nat_lt 0 kept.refused)) input output told)
      (λ e. absurd (told_apart before after code (done_status kept.refused) [] before.sinks.notes after.sinks.notes told (done_is (nat_lt 0 kept.refused)).memory e))

  -- more bytes than the limit
  pub closed_over : (code : Status) → Takes tags limits kept st st' stands before after unread (Err err.InputLimit) → after.input.faults ≡ before.input.faults → after.sinks.output ≡ before.sinks.output →
      NotesLine (stop_line (stop.InputLimit limits.input)) status.InputLimit before.sinks.notes after.sinks.notes code → Closed code
  closed_over code takes input output told =
      closed code (λ i f. ends_over tags limits kept st st' stands before after unread code i takes output told f)
      (end_causes before after code (stop_line (stop.InputLimit limits.input)) status.InputLimit (record { step = tt; memory = λ h. cc; write = λ h. cc; read = λ h. cc }) input output told)
      (λ e. absurd (told_apart before after code status.InputLimit (stop_line (stop.InputLimit limits.input)) before.sinks.notes after.sinks.notes told (λ h. cc) e))

  -- a read that failed
  pub closed_read : (code : Status) → Takes tags limits kept st st' stands before after unread (Err err.ReadFault) → RawCause {T = Unit {0}} before.input.faults after.input.faults (Err err.ReadFault) → after.sinks.output ≡ before.sinks.output →
      NotesLine (stop_line (stop.ReadFault st'.taken)) status.ReadFault before.sinks.notes after.sinks.notes code → Closed code
  closed_read code takes cause output told =
      let fault : Failed before.input after.input = record { rose = cause.1; later = cause.0 } in
      closed code (λ i f. stalls_at tags limits kept st st' stands before after unread code i takes fault output told f)
      (read_causes before after code (stop_line (stop.ReadFault st'.taken)) fault told)
      (λ e. absurd (told_apart before after code status.ReadFault (stop_line (stop.ReadFault st'.taken)) before.sinks.notes after.sinks.notes told (λ h. cc) e))

  module _ (item : Item) (t : Took tags limits kept st st' stands before after unread item) (input : after.input.faults ≡ before.input.faults) where
    -- an item whose answer is written
    pub went : (verdict : Verdict) → DeliversDraft (reply tags limits kept st st' stands before after unread item t) before.sinks after.sinks (Ok verdict) →
        Answers (answering tags limits kept st st' stands) (pump tags limits kept st st' stands) (raw_ahead st') before after (Ok (record { bytes = length item.bytes; verdict = verdict }))
    went verdict wrote =
        subst (λ (v : Verdict). Answers (answering tags limits kept st st' stands) (pump tags limits kept st st' stands) (raw_ahead st') before after (Ok (record { bytes = length item.bytes; verdict = v }))) (sym wrote.1)
        (goes tags limits kept st st' stands before after unread item t wrote.0.0 (record { input = input; output = wrote.0.1; notes = wrote.0.2 }))

    -- an item whose answer is written in part
    pub stopped : (code : Status) → DeliversDraft (reply tags limits kept st st' stands before after unread item t) before.sinks after.sinks (Err code) → Wants true (Err code) → Closed code
    stopped code d wants = elim d [
      | inl b ↦ closed code (λ i f. failed_at (fails tags limits kept st st' stands before after unread item t i (λ r. Breaks before.sinks after.sinks (written_of r)) b.1 f) b.0)
          (break_causes before after code (written_of (reply tags limits kept st st' stands before after unread item t)) b.0 b.1) wants
      | inr w ↦ closed code (λ i f. wanting_at (fails tags limits kept st st' stands before after unread item t i (λ r. after.sinks ≡ before.sinks) w.1 f) w.0)
          (want_causes before after code w.0) wants
    ]

  -- ---- a message, and bytes that are none

  abbrev Said : Result Tally Status → Type 0
  Said result = Answers (answering tags limits kept st st' stands) (pump tags limits kept st st' stands) (raw_ahead st') before after result

  abbrev counts : ℕ → Verdict → Tally
  counts bytes verdict = record { bytes = bytes; verdict = verdict }

  module _ (takes : Takes tags limits kept st st' stands before after unread (Ok taken.Message)) (text : List ℕ) (same : text ≡ st'.text) where
    taken_text : Took tags limits kept st st' stands before after unread (message st'.text)
    taken_text = message_took tags limits kept st st' stands before after unread takes

    pub went_text : after.input.faults ≡ before.input.faults → (bytes : ℕ) (verdict : Verdict) → bytes ≡ length text → DeliversDraft (framed text) before.sinks after.sinks (Ok verdict) → Said (Ok (counts bytes verdict))
    went_text input bytes verdict size d =
        subst (λ n. Said (Ok (counts n verdict))) (sym (size ∙ ap length same)) (went (message st'.text) taken_text input verdict (subst (λ t. DeliversDraft (framed t) before.sinks after.sinks (Ok verdict)) same d))

    pub stopped_text : after.input.faults ≡ before.input.faults → (code : Status) → DeliversDraft (framed text) before.sinks after.sinks (Err code) → Wants true (Err code) → Said (Err code)
    stopped_text input code d wants = stopped (message st'.text) taken_text input code (subst (λ t. DeliversDraft (framed t) before.sinks after.sinks (Err code)) same d) wants

    text_parts : (verdict : Verdict) → DeliversDraft (framed text) before.sinks after.sinks (Ok verdict) → HasParts (length st'.text) verdict
    text_parts verdict d = subst (HasParts (length st'.text)) (sym d.1) (answered_parts (length st'.text))

    pub stands_text : (bytes : ℕ) (verdict : Verdict) → bytes ≡ length text → DeliversDraft (framed text) before.sinks after.sinks (Ok verdict) → StandsRaw limits st' (counted_by kept bytes verdict)
    stands_text bytes verdict size d =
        subst (λ n. StandsRaw limits st' (counted_by kept n verdict)) (sym (size ∙ ap length same)) (stands_on tags limits kept st st' stands before after unread (message st'.text) taken_text verdict (text_parts verdict d))

    pub countable_text : (bytes : ℕ) (verdict : Verdict) → bytes ≡ length text → IsBounded limits → DeliversDraft (framed text) before.sinks after.sinks (Ok verdict) → CanCount kept (counts bytes verdict)
    countable_text bytes verdict size bounded d =
        subst (λ n. CanCount kept (counts n verdict)) (sym (size ∙ ap length same)) (countable tags limits kept st st' stands before after unread (message st'.text) taken_text verdict (text_parts verdict d) bounded)

    -- the length of a text fits the head of a frame
    pub text_fits : IsBounded limits → length text < 2 ^ 24
    text_fits bounded = omega (arith, ap length same, takes.held.2, stands.most, bounded.high)

  module _ (code : PCode) (at many : ℕ) (takes : Takes tags limits kept st st' stands before after unread (Ok (taken.Garbled code at many))) where
    abbrev gone : List ℕ
    gone = (garbled_took tags limits kept st st' stands before after unread code at many takes).0

    many_is : many ≡ length gone
    many_is = (garbled_took tags limits kept st st' stands before after unread code at many takes).1

    taken_bytes : Took tags limits kept st st' stands before after unread (record { kind = Garbled code; bytes = gone })
    taken_bytes = (garbled_took tags limits kept st st' stands before after unread code at many takes).2

    pub went_garbled : after.input.faults ≡ before.input.faults → (verdict : Verdict) → DeliversDraft (noted kept code many) before.sinks after.sinks (Ok verdict) → Said (Ok (counts many verdict))
    went_garbled input verdict d =
        subst (λ n. Said (Ok (counts n verdict))) (sym many_is) (went (record { kind = Garbled code; bytes = gone }) taken_bytes input verdict (subst (λ n. DeliversDraft (noted kept code n) before.sinks after.sinks (Ok verdict)) many_is d))

    pub stopped_garbled : after.input.faults ≡ before.input.faults → (end : Status) → DeliversDraft (noted kept code many) before.sinks after.sinks (Err end) → Wants true (Err end) → Said (Err end)
    stopped_garbled input end d wants =
        stopped (record { kind = Garbled code; bytes = gone }) taken_bytes input end (subst (λ n. DeliversDraft (noted kept code n) before.sinks after.sinks (Err end)) many_is d) wants

    garbled_parts : (verdict : Verdict) → DeliversDraft (noted kept code many) before.sinks after.sinks (Ok verdict) → HasParts (length gone) verdict
    garbled_parts verdict d = subst (HasParts (length gone)) (sym d.1) (refused_parts (length gone))

    pub stands_garbled : (verdict : Verdict) → DeliversDraft (noted kept code many) before.sinks after.sinks (Ok verdict) → StandsRaw limits st' (counted_by kept many verdict)
    stands_garbled verdict d =
        subst (λ n. StandsRaw limits st' (counted_by kept n verdict)) (sym many_is) (stands_on tags limits kept st st' stands before after unread (record { kind = Garbled code; bytes = gone }) taken_bytes verdict (garbled_parts verdict d))

    pub countable_garbled : (verdict : Verdict) → IsBounded limits → DeliversDraft (noted kept code many) before.sinks after.sinks (Ok verdict) → CanCount kept (counts many verdict)
    countable_garbled verdict bounded d =
        subst (λ n. CanCount kept (counts n verdict)) (sym many_is) (countable tags limits kept st st' stands before after unread (record { kind = Garbled code; bytes = gone }) taken_bytes verdict (garbled_parts verdict d) bounded)
