-- What a step answers: its status, and the counts of faults.
use Rattle.std.proofs.Common.{◌≡◌, ◌⊎◌, inl, inr, ℕ, ◌+◌, ◌<◌, Bool, true, false, cond, List, [], ◌∷◌, length, Some, None, Ok, Err, refl, sym, ap, ◌∙◌, subst, arith}
use Rattle.std.specs.Prelude.{nat_lt}
use Rattle.std.specs.Io.KnownBytes.{Appends}
use Rattle.std.proofs.KnownBytes.{Appends-nil}
use Rattle.sbe_base.specs.declared.status.Limits.{Limits}
use Rattle.sbe_base.specs.declared.status.Status.{Status}
use Rattle.sbe_base.specs.declared.status.Status.TheVariants as status
use Rattle.open_framing.specs.declared.head.Head.{Head}
use Rattle.open_framing.specs.Frames.{first_item}
use Rattle.frame_stream.specs.declared.held.Ended.{Ended}
use Rattle.frame_stream.specs.declared.held.Ended.TheVariants as ended
use Rattle.frame_stream.specs.declared.stream.Taken.TheVariants as taken
use Rattle.frame_stream.specs.declared.stream.StreamErr.TheVariants as err
use Rattle.frame_stream.specs.Stream.{StreamState, end_answer, Takes, TakeCause}
use Rattle.command_steps.specs.Splits.{Once, Whole, End, Splits, Begins}
use Rattle.replies.specs.Reply.{Written, Reply, written_of}
use Rattle.command_steps.specs.Replies.{Answering, by_whole, counted_by, HasParts, Replied, Wants}
use Rattle.command_steps.specs.Ends.{end_notes, end_status, done_status, stop_line, stop_status}
use Rattle.sbe_base.specs.Objects.{Object, Failed}
use Rattle.replies.specs.Outside.{Sinks, Streams, Breaks, at_output, at_notes, NotesLine, noted, failed}
use Rattle.command_steps.specs.Steps.{Moment, running, reading_after, IsStepStatus, Fails, Halts, ended_at, failed_at, wanting_at, Causes, Answers}
use Rattle.open_framing.specs.Frames.{Item}
use Rattle.replies.specs.Drafts.{DeliversDraft}
use Rattle.command_steps.specs.Stands.{Stands, StandsOnce, CanCount}
use Rattle.replies.specs.declared.verdict.Verdict.{Verdict}
use Rattle.command_steps.specs.declared.kept.Kept.{Kept}
use Rattle.command_steps.specs.declared.end.Stop.{Stop}
use Rattle.command_steps.specs.declared.end.Stop.TheVariants as stop
use Rattle.command_steps.specs.Ahead.{none_ahead}
use Rattle.command_steps.proofs.Following.{told_of, follows_all}
use Rattle.command_steps.proofs.Splitting.{once_none, once_one}
use Rattle.command_steps.proofs.Stepping.{refused_one, translated_one, piece_end, answering, pump, ends, stalls_at, fails, goes}

-- ---- the statuses of the ends

-- a status of an end is a step's, and no fault
pub record IsEnd (code : Status) : Type 0 where
  pub step : IsStepStatus code
  pub memory : code ≡ status.NoMemory → ⊥
  pub write : code ≡ status.WriteFault → ⊥
  pub read : code ≡ status.ReadFault → ⊥

pub done_is : (some : Bool) → IsEnd (cond some status.SomeRefused status.Done)
done_is true = record { step = tt; memory = λ h. cc; write = λ h. cc; read = λ h. cc }
done_is false = record { step = tt; memory = λ h. cc; write = λ h. cc; read = λ h. cc }

end_is : (e : Ended) (refused : ℕ) → IsEnd (end_status (piece_end e) refused)
end_is ended.End refused = done_is (nat_lt 0 refused)
end_is (ended.Inside n) refused = record { step = tt; memory = λ h. cc; write = λ h. cc; read = λ h. cc }
end_is (ended.Head h) refused = record { step = tt; memory = λ h. cc; write = λ h. cc; read = λ h. cc }
end_is ended.Over refused = record { step = tt; memory = λ h. cc; write = λ h. cc; read = λ h. cc }

-- nothing more is noted
pub wrote_none : (old new : Sinks) → new ≡ old → Appends old.notes.told new.notes.told []
wrote_none old new same = subst (λ (s : Sinks). Appends old.notes.told s.notes.told []) (sym same) (Appends-nil old.notes.told)

noted_none : (old new : Object (List ℕ)) (notes : List ℕ) → new ≡ old → notes ≡ [] → Appends old.told new.told notes
noted_none old new notes same none = subst (λ n. Appends old.told new.told n) (sym none) (subst (λ (o : Object (List ℕ)). Appends old.told o.told []) (sym same) (Appends-nil old.told))

-- ---- the parts that are counted

-- an answer to so many bytes that is written counts no more parts than it may
pub parts_of : (bytes : ℕ) (IsAnswer : Reply → Type 0) (old new : Sinks) (verdict : Verdict) → Replied bytes IsAnswer old new (Ok verdict) → HasParts bytes verdict
parts_of bytes IsAnswer old new verdict (reply, replied, parts, wrote) = subst (HasParts bytes) (sym wrote.1) parts

-- a reply that was drafted, and then written
pub delivered : (reply : Reply) (old new : Sinks) (verdict : Verdict) → HasParts 0 reply.verdict → DeliversDraft reply old new (Ok verdict) → HasParts 0 verdict
delivered reply old new verdict parts wrote = subst (HasParts 0) (sym wrote.1) parts

-- ---- the causes

module _ (before after : Streams) where
  -- a write failed, or memory ran out
  pub write_causes : (code : Status) → code ≡ status.WriteFault → Failed before.sinks.output after.sinks.output ⊎ Failed before.sinks.notes after.sinks.notes → Causes before after code
  write_causes code is fault = subst (λ (s : Status). Causes before after s) (sym is) (record { calm = λ r. absurd r; read = λ e. cc; write = λ e. fault; late = tt })

  pub want_causes : (code : Status) → code ≡ status.NoMemory → Causes before after code
  want_causes code is = subst (λ (s : Status). Causes before after s) (sym is) (record { calm = λ r. absurd r; read = λ e. cc; write = λ e. cc; late = tt })

  pub break_causes : (code : Status) (written : Written) → code ≡ status.WriteFault → Breaks before.sinks after.sinks written → Causes before after code
  break_causes code written is breaks = write_causes code is (elim breaks [ at_output p s f ↦ inl f | at_notes a s p f ↦ inr f ])

  -- an end that was told
  pub end_causes : (code : Status) (line : List ℕ) (last : Status) → IsEnd last → after.input.faults ≡ before.input.faults → after.sinks.output ≡ before.sinks.output →
      NotesLine line last before.sinks.notes after.sinks.notes code → Causes before after code
  end_causes code line last is input output told = elim told [
    | noted c a k ↦ record {
      calm = λ r. record { input = input; output = ap (λ o. o.faults) output; notes = k };
      read = λ r. absurd (is.read (sym c ∙ r));
      write = λ w. absurd (is.write (sym c ∙ w));
      late = subst IsStepStatus (sym c) is.step;
    }
    | failed c p f ↦ write_causes code c (inr f)
  ]

  -- what is told is never out of memory
  pub told_apart : (code last : Status) (line : List ℕ) (old new : Object (List ℕ)) → NotesLine line last old new code → (last ≡ status.NoMemory → ⊥) → code ≡ status.NoMemory → ⊥
  told_apart code last line old new told never is = elim told [
    | noted c a k ↦ never (sym c ∙ is)
    | failed c p f ↦ apart_write (sym c ∙ is)
  ]
    where
      apart_write : ◌≡◌ {A = Status} status.WriteFault status.NoMemory → ⊥
      apart_write e = cc

  -- a read that failed
  pub read_causes : (code : Status) (line : List ℕ) → Failed before.input after.input → NotesLine line status.ReadFault before.sinks.notes after.sinks.notes code → Causes before after code
  read_causes code line fault told = elim told [
    | noted c a k ↦ subst (λ (s : Status). Causes before after s) (sym c) (record { calm = λ r. absurd r; read = λ e. fault; write = λ e. cc; late = tt })
    | failed c p f ↦ write_causes code c (inr f)
  ]

-- ---- the step of a job that answers frames

module _ (limits : Limits) (spares : Bool) (last_line : Kept → List ℕ) (IsAnswer : Kept → Item → Reply → Type 0) (kept : Kept) (before after : Streams) where
  abbrev on : Answering
  on = answering limits spares last_line IsAnswer kept

  abbrev at : Moment
  at = pump limits spares last_line IsAnswer kept

  closed : (code : Status) → ((input : List ℕ) → before.input.told ≡ Some input → Halts on at before after input code) → Causes before after code → (code ≡ status.NoMemory → spares ≡ false) →
      Answers on at none_ahead before after (Err code)
  closed code halts causes never = record { halts = λ i follows. halts i (told_of before.input.told i follows); causes = causes; kept = refl; memory = never; unread = λ none. cc }

  module _ (st st' : StreamState) (stands : Stands limits st kept) where
    -- the end of the input
    pub closed_end : (code : Status) → Takes st st' before.input.told after.input.told (Ok taken.End) → after.input.faults ≡ before.input.faults → after.sinks.output ≡ before.sinks.output →
        NotesLine (last_line kept) (done_status kept.refused) before.sinks.notes after.sinks.notes code → Answers on at none_ahead before after (Err code)
    closed_end code takes input output told =
        closed code (λ i source. ends limits spares last_line IsAnswer kept st st' stands before after code ended.End i takes output told source)
        (end_causes before after code (last_line kept) (end_status End kept.refused) (end_is ended.End kept.refused) input output told)
        (λ e. absurd (told_apart before after code (end_status End kept.refused) (last_line kept) before.sinks.notes after.sinks.notes told (end_is ended.End kept.refused).memory e))

    -- an end that is noted
    pub closed_with : (e : Ended) (s : Stop) (code : Status) → Takes st st' before.input.told after.input.told (end_answer e) → after.input.faults ≡ before.input.faults → after.sinks.output ≡ before.sinks.output →
        stop_line s ≡ end_notes on (piece_end e) kept → stop_status s ≡ end_status (piece_end e) kept.refused →
        NotesLine (stop_line s) (stop_status s) before.sinks.notes after.sinks.notes code → Answers on at none_ahead before after (Err code)
    closed_with e s code takes input output line last told =
        let heard : NotesLine (end_notes on (piece_end e) kept) (end_status (piece_end e) kept.refused) before.sinks.notes after.sinks.notes code =
        subst (λ (c : Status). NotesLine (end_notes on (piece_end e) kept) c before.sinks.notes after.sinks.notes code) last (subst (λ l. NotesLine l (stop_status s) before.sinks.notes after.sinks.notes code) line told) in
        closed code (λ i source. ends limits spares last_line IsAnswer kept st st' stands before after code e i takes output heard source)
        (end_causes before after code (end_notes on (piece_end e) kept) (end_status (piece_end e) kept.refused) (end_is e kept.refused) input output heard)
        (λ m. absurd (told_apart before after code (end_status (piece_end e) kept.refused) (end_notes on (piece_end e) kept) before.sinks.notes after.sinks.notes heard (end_is e kept.refused).memory m))

    -- a read that failed
    pub closed_read : (code : Status) → Takes st st' before.input.told after.input.told (Err err.ReadFault) → first_item st'.frame st'.held ≡ None →
        TakeCause before.input.faults after.input.faults (Err err.ReadFault) → after.sinks.output ≡ before.sinks.output →
        NotesLine (stop_line (stop.ReadFault st'.taken)) status.ReadFault before.sinks.notes after.sinks.notes code → Answers on at none_ahead before after (Err code)
    closed_read code takes none cause output told =
        let fault : Failed before.input after.input = record { rose = cause.1; later = cause.0 } in
        closed code (λ i source. stalls_at limits spares last_line IsAnswer kept st st' stands before after code i takes none fault output told source)
        (read_causes before after code (stop_line (stop.ReadFault st'.taken)) fault told)
        (λ m. absurd (told_apart before after code status.ReadFault (stop_line (stop.ReadFault st'.taken)) before.sinks.notes after.sinks.notes told (λ e. cc) m))

    module _ (h : Head) (takes : Takes st st' before.input.told after.input.told (Ok (taken.Frame h))) (size : h.length ≡ length st'.body + 6) (input : after.input.faults ≡ before.input.faults) where
      abbrev item : Item
      item = record { encoding = h.encoding; body = st'.body }

      -- a frame whose answer is written
      pub went : (verdict : Verdict) → Replied (length st'.body) (IsAnswer kept item) before.sinks after.sinks (Ok verdict) → Answers on at none_ahead before after (Ok (record { bytes = h.length; verdict = verdict }))
      went verdict (reply, replied, parts, wrote) =
          subst (λ (v : Verdict). Answers on at none_ahead before after (Ok (record { bytes = h.length; verdict = v }))) (sym wrote.1)
          (goes limits spares last_line IsAnswer kept st st' stands before after status.Done h takes size reply replied wrote.0.0 (record { input = input; output = wrote.0.1; notes = wrote.0.2 }))

      -- a frame whose answer is written in part, or wants memory
      pub stopped : (code : Status) → Replied (length st'.body) (IsAnswer kept item) before.sinks after.sinks (Err code) → Wants spares (Err code) → Answers on at none_ahead before after (Err code)
      stopped code (reply, replied, parts, d) wants = elim d [
        | inl b ↦ closed code (λ i source. failed_at (fails limits spares last_line IsAnswer kept st st' stands before after status.WriteFault h takes size reply replied i (λ r. Breaks before.sinks after.sinks (written_of r)) b.1 source) b.0)
            (break_causes before after code (written_of reply) b.0 b.1) wants
        | inr w ↦ closed code (λ i source. wanting_at (fails limits spares last_line IsAnswer kept st st' stands before after status.NoMemory h takes size reply replied i (λ r. after.sinks ≡ before.sinks) w.1 source) w.0)
            (want_causes before after code w.0) wants
      ]

-- ---- the steps of a job over its files

module _ (IsAnswer : Reply → Type 0) (kept : Kept) (stands : StandsOnce kept) (before after : Streams) (same : after.input ≡ before.input) where
  abbrev pub job : Answering
  job = by_whole IsAnswer

  abbrev pub whole : Moment
  whole = running kept none_ahead

  closed_once : (code : Status) → ((input : List ℕ) → before.input.told ≡ Some input → Halts job whole before after input code) → Causes before after code → Answers job whole none_ahead before after (Err code)
  closed_once code halts causes = record { halts = λ i follows. halts i (told_of before.input.told i follows); causes = causes; kept = refl; memory = λ e. refl; unread = λ none. same }

  source_so : (input : List ℕ) → before.input.told ≡ Some input → after.input.told ≡ Some input
  source_so input source = ap (λ o. o.told) same ∙ source

  -- the job was done before
  pub done_once : (code : Status) → 0 < kept.items → after.sinks ≡ before.sinks → code ≡ done_status kept.refused → Answers job whole none_ahead before after (Err code)
  done_once code some sinks done =
      let output = ap (λ s. s.output) sinks in
      let one : kept.items ≡ 1 = omega (arith, stands.items, some) in
      let told : NotesLine [] (end_status End kept.refused) before.sinks.notes after.sinks.notes code =
      noted done (wrote_none before.sinks after.sinks sinks) (ap (λ s. s.notes.faults) sinks) in
      let none : (input : List ℕ) → Splits (reading_after Once kept) input [] End = λ input. subst (λ r. Splits r input [] End) (sym (once_one kept one)) (refl, refl) in
      closed_once code (λ input source. ended_at (record { end = End; split = none input; left = λ read. cc; output = output; noted = told }))
      (end_causes before after code [] (end_status End kept.refused) (end_is ended.End kept.refused) (ap (λ o. o.faults) same) output told)

  -- the job is done now
  module _ (none : kept.items ≡ 0) where
    begins_whole : (input : List ℕ) → Begins (reading_after Once kept) none_ahead input (Whole ∷ []) input
    begins_whole input = subst (λ r. Begins r none_ahead input (Whole ∷ []) input) (sym (once_none kept none)) (inr refl, refl)

    pub went_once : (verdict : Verdict) (reply : Reply) → IsAnswer reply → DeliversDraft reply before.sinks after.sinks (Ok verdict) → Answers job whole none_ahead before after (Ok (record { bytes = 0; verdict = verdict }))
    went_once verdict reply replied wrote = record {
      unmet = refl;
      ahead = refl;
      answers = λ input follows. record {
        piece = Whole;
        reply = reply;
        left = input;
        source = follows_all after.input.told input (source_so input (told_of before.input.told input follows));
        taken = begins_whole input;
        keeps = tt;
        stays = λ e. cc;
        replied = replied;
        wrote = wrote.0.0;
        kept = ap (λ (v : Verdict). counted_by kept 0 v) wrote.1;
      };
      calm = record { input = ap (λ o. o.faults) same; output = wrote.0.1; notes = wrote.0.2 };
      runs = refl;
      more = omega arith;
      within = omega (arith, none);
      bytes_more = λ read. cc;
      bytes_within = omega (arith, stands.bytes);
      unread = λ x. same;
    }

    fails_once : (reply : Reply) → IsAnswer reply → (input : List ℕ) (IsWritten : Reply → Type 0) → IsWritten reply → before.input.told ≡ Some input → Fails job whole after input IsWritten
    fails_once reply replied input IsWritten wrote source = record {
      piece = Whole;
      reply = reply;
      left = input;
      unmet = refl;
      ahead = none_ahead;
      only_lines = refl;
      source = follows_all after.input.told input (source_so input source);
      taken = begins_whole input;
      keeps = tt;
      stays = λ e. cc;
      replied = replied;
      wrote = wrote;
    }

    pub stopped_once : (code : Status) (reply : Reply) → IsAnswer reply → DeliversDraft reply before.sinks after.sinks (Err code) → Answers job whole none_ahead before after (Err code)
    stopped_once code reply replied d = elim d [
      | inl b ↦ closed_once code (λ i source. failed_at (fails_once reply replied i (λ r. Breaks before.sinks after.sinks (written_of r)) b.1 source) b.0) (break_causes before after code (written_of reply) b.0 b.1)
      | inr w ↦ closed_once code (λ i source. wanting_at (fails_once reply replied i (λ r. after.sinks ≡ before.sinks) w.1 source) w.0) (want_causes before after code w.0)
    ]

-- what follows the one job
module _ (kept : Kept) (stands : StandsOnce kept) (none : kept.items ≡ 0) (verdict : Verdict) (parts : HasParts 0 verdict) where
  pub once_stands : StandsOnce (counted_by kept 0 verdict)
  once_stands = record {
    items = omega (arith, none);
    refused = omega (arith, stands.refused, refused_one verdict);
    translated = omega (arith, stands.translated, translated_one verdict);
    dropped = omega (arith, stands.bytes, stands.dropped, parts.dropped);
    filled = omega (arith, stands.bytes, stands.filled, parts.filled);
    bytes = omega (arith, stands.bytes);
  }

  pub once_countable : CanCount kept (record { bytes = 0; verdict = verdict })
  once_countable = record {
    items = omega (arith, none);
    refused = omega (arith, none, stands.refused);
    translated = omega (arith, none, stands.translated);
    dropped = omega (arith, stands.bytes, stands.dropped, parts.dropped);
    filled = omega (arith, stands.bytes, stands.filled, parts.filled);
    bytes = omega (arith, stands.bytes);
  }
