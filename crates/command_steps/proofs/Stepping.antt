-- One step of a pump over a stream of frames.
use Rattle.std.proofs.Common.{◌≡◌, ℕ, ◌+◌, ◌-◌, ◌≤◌, Bool, true, false, List, [], ◌∷◌, ◌++◌, length, Option, Some, None, Result, Ok, Err, refl, sym, ap, ◌∙◌, subst, arith}
use Rattle.std.specs.Prelude.{nat_lt}
use Rattle.std.proofs.lemmas.List.{append-nil, take_all}
use Rattle.std.proofs.lemmas.Bool.Decides.{nat_tests}
use Rattle.sbe_base.specs.declared.status.Limits.{Limits}
use Rattle.sbe_base.specs.declared.status.Status.{Status}
use Rattle.sbe_base.specs.declared.status.Status.TheVariants as status
use Rattle.open_framing.specs.declared.head.Head.{Head}
use Rattle.open_framing.specs.declared.head.HeadErr.{HeadErr}
use Rattle.open_framing.specs.declared.head.HeadErr.TheVariants as head
use Rattle.open_framing.specs.Heads.{head_of}
use Rattle.open_framing.specs.Pieces.{concat_pieces}
use Rattle.open_framing.specs.Frames.{Item, frame_of, IsFrame, first_item, Cut, CutEnd, end_by}
use Rattle.open_framing.specs.Frames as frames
use Rattle.open_framing.proofs.FrameLemmas.{frame_complete}
use Rattle.frame_stream.specs.declared.held.Ended.{Ended}
use Rattle.frame_stream.specs.declared.held.Ended.TheVariants as ended
use Rattle.frame_stream.specs.declared.stream.Taken.{Taken}
use Rattle.frame_stream.specs.declared.stream.Taken.TheVariants as taken
use Rattle.frame_stream.specs.declared.stream.StreamErr.{StreamErr}
use Rattle.frame_stream.specs.declared.stream.StreamErr.TheVariants as err
use Rattle.frame_stream.specs.Stream.{StreamState, room, end_answer, Takes, TakesFrom, TakesBy, BodyOf}
use Rattle.command_steps.specs.Splits.{Reading, Frames, Frame, PieceEnd, End, EndInside, HeadFault, InputLimit, frames_end, Splits, Begins, Holds}
use Rattle.replies.specs.Reply.{Reply, written_of}
use Rattle.command_steps.specs.Replies.{Answering, by_frames, refusals, translations, HasParts, counted, counted_by}
use Rattle.command_steps.specs.Ends.{end_notes, end_status, stop_line}
use Rattle.sbe_base.specs.Objects.{Failed}
use Rattle.replies.specs.Outside.{Streams, Wrote, Calm, NotesLine}
use Rattle.command_steps.specs.Steps.{Moment, running, Goes, Fails, Halts, ended_at, stalled_at}
use Rattle.command_steps.specs.Stands.{IsBounded, Stands, CanCount}
use Rattle.replies.specs.declared.verdict.Verdict.{Verdict}
use Rattle.replies.specs.declared.verdict.Verdict.TheVariants.{Answered, Refused, Translated, Regraded}
use Rattle.command_steps.specs.declared.kept.Kept.{Kept}
use Rattle.command_steps.specs.declared.end.Stop.TheVariants as stop
use Rattle.command_steps.specs.Ahead.{none_ahead}
use Rattle.command_steps.proofs.Following.{told_of, follows_all}
use Rattle.command_steps.proofs.Splitting.{some_same, none_some}

-- ---- a cut that ends with nothing left

-- no byte goes on, and none is left
end_is : (found : Result Head HeadErr) (goes_on : Bool) (rest : List ℕ) → frames.End ≡ end_by found goes_on rest → (goes_on ≡ false) × (rest ≡ [])
end_is (Ok h) true rest e = cc
end_is (Ok h) false [] e = (refl, refl)
end_is (Ok h) false (b ∷ rest) e = cc
end_is (Err head.HeadShort) true rest e = cc
end_is (Err head.HeadShort) false [] e = (refl, refl)
end_is (Err head.HeadShort) false (b ∷ rest) e = cc
end_is (Err (head.LengthShort n)) goes_on rest e = cc
end_is (Err (head.LengthOver n)) goes_on rest e = cc
end_is (Err (head.Encoding n)) goes_on rest e = cc

cut_ended : (stream : List ℕ) (limit n : ℕ) → Cut stream limit n [] frames.End → stream ≡ []
cut_ended stream limit n cut =
    let ends = end_is (head_of cut.rest limit) (nat_lt n (length stream)) cut.rest cut.ends in
    let within : length stream ≤ n = grind (arith, nat_tests, ends.0) in
    sym (take_all n stream within) ∙ cut.pieces.whole ∙ ends.1

-- ---- what a stream tells, in the words of a pump

abbrev pub cut_end : Ended → CutEnd
cut_end ended.End = frames.End
cut_end (ended.Inside n) = frames.EndInside n
cut_end (ended.Head e) = frames.HeadFault e
cut_end ended.Over = frames.InputLimit

abbrev pub piece_end : Ended → PieceEnd
piece_end ended.End = End
piece_end (ended.Inside n) = EndInside n
piece_end (ended.Head e) = HeadFault e
piece_end ended.Over = InputLimit

same_end : (e : Ended) → piece_end e ≡ frames_end (cut_end e)
same_end ended.End = refl
same_end (ended.Inside n) = refl
same_end (ended.Head e) = refl
same_end ended.Over = refl

cut_told : (stream left : List ℕ) (old new : StreamState) (e : Ended) → TakesBy stream old new left (end_answer e) → Cut stream old.frame (room old) [] (cut_end e)
cut_told stream left old new ended.End h = h.0
cut_told stream left old new (ended.Inside n) h = h.0
cut_told stream left old new (ended.Head e) h = h.0
cut_told stream left old new ended.Over h = h.0

-- a stream that held nothing takes from what the source had left
took : (old new : StreamState) (a b : Option (List ℕ)) (result : Result Taken StreamErr) (input : List ℕ) → old.held ≡ [] → TakesFrom old new a b result → a ≡ Some input → (left : List ℕ) × (b ≡ Some left) × TakesBy input old new left result
took old new None b result input none h e = absurd (none_some e)
took old new (Some x) None result input none h e = absurd h
took old new (Some x) (Some y) result input none h e =
    (y, refl, subst (λ s. TakesBy s old new y result) (ap (λ s. s ++ x) none ∙ some_same e) h)

-- ---- a step

-- an item is refused once at the most
pub refused_one : (verdict : Verdict) → refusals verdict ≤ 1
refused_one Answered = omega arith
refused_one Refused = omega arith
refused_one Translated = omega arith
refused_one (Regraded dropped filled) = omega arith

pub translated_one : (verdict : Verdict) → translations verdict ≤ 1
translated_one Answered = omega arith
translated_one Refused = omega arith
translated_one Translated = omega arith
translated_one (Regraded dropped filled) = omega arith

module _ (limits : Limits) (spares : Bool) (last_line : Kept → List ℕ) (IsAnswer : Kept → Item → Reply → Type 0) (kept : Kept) where
  abbrev pub answering : Answering
  answering = by_frames limits spares last_line IsAnswer

  abbrev pub pump : Moment
  pump = running kept none_ahead

  abbrev on : Reading
  on = Frames (record { frame = limits.frame; input = limits.input - kept.bytes })

  module _ (st st' : StreamState) (stands : Stands limits st kept) where
    room_left : room st ≡ limits.input - kept.bytes
    room_left = omega (arith, stands.room)

    module _ (before after : Streams) (code : Status) where
      -- ---- the end

      split : (input left : List ℕ) (e : Ended) → TakesBy input st st' left (end_answer e) → Splits on input [] (piece_end e)
      split input left e h = (
        [],
        cut_end e,
        subst (λ n. Cut input limits.frame n [] (cut_end e)) room_left (subst (λ n. Cut input n (room st) [] (cut_end e)) stands.frame (cut_told input left st st' e h)),
        refl,
        same_end e,
      )

      nothing_left : (input left : List ℕ) (e : Ended) → Takes st st' before.input.told after.input.told (end_answer e) → after.input.told ≡ Some left → TakesBy input st st' left (end_answer e) → piece_end e ≡ End → after.input.told ≡ Some []
      nothing_left input left ended.End takes source h is =
          let none : input ≡ [] = cut_ended input st.frame (room st) h.0 in
          let same : input ≡ left = h.1 ∙ ap (λ x. x ++ left) takes.held in
          source ∙ ap Some (sym same ∙ none)
      nothing_left input left (ended.Inside n) takes source h is = cc
      nothing_left input left (ended.Head e) takes source h is = cc
      nothing_left input left ended.Over takes source h is = cc

      pub ends : (e : Ended) (input : List ℕ) → Takes st st' before.input.told after.input.told (end_answer e) → after.sinks.output ≡ before.sinks.output →
          NotesLine (end_notes answering (piece_end e) kept) (end_status (piece_end e) kept.refused) before.sinks.notes after.sinks.notes code →
          before.input.told ≡ Some input → Halts answering pump before after input code
      ends e input takes same told source =
          let h = took st st' before.input.told after.input.told (end_answer e) input stands.held takes.from source in
          ended_at (record { end = piece_end e; split = split input h.0 e h.2; left = λ read. nothing_left input h.0 e takes h.1 h.2; output = same; noted = told })

      -- ---- a fault of the input

      no_frame : (limit : ℕ) (bytes : List ℕ) → first_item limit bytes ≡ None → (x : Item) (more : List ℕ) → IsFrame limit x → bytes ≡ frame_of x ++ more → ⊥
      no_frame limit bytes none x more is e = none_some (sym none ∙ ap (first_item limit) e ∙ frame_complete limit x more is)

      part_held : (held : List ℕ) → first_item limits.frame held ≡ None → Holds on held []
      part_held held none = ([], held, record { whole = refl; each = tt; longest = no_frame limits.frame held none }, refl)

      pub stalls_at : (input : List ℕ) → Takes st st' before.input.told after.input.told (Err err.ReadFault) → first_item st'.frame st'.held ≡ None → Failed before.input after.input → after.sinks.output ≡ before.sinks.output →
          NotesLine (stop_line (stop.ReadFault st'.taken)) status.ReadFault before.sinks.notes after.sinks.notes code → before.input.told ≡ Some input → Halts answering pump before after input code
      stalls_at input takes none fault same told source =
          let h = took st st' before.input.told after.input.told (Err err.ReadFault) input stands.held takes.from source in
          let at : st'.taken ≡ kept.bytes + length st'.held = omega (arith, stands.room, stands.input, takes.falls, takes.input, takes.within) in
          stalled_at (record {
            unmet = refl;
            keeps = tt;
            reads = refl;
            held = st'.held;
            left = h.0;
            source = h.1;
            taken = h.2;
            part = part_held st'.held (subst (λ n. first_item n st'.held ≡ None) (takes.frame ∙ stands.frame) none);
            fault = fault;
            output = same;
            noted = subst (λ n. NotesLine (stop_line (stop.ReadFault n)) status.ReadFault before.sinks.notes after.sinks.notes code) at told;
          })

      -- ---- a frame

      module _ (h : Head) (takes : Takes st st' before.input.told after.input.told (Ok (taken.Frame h))) (size : h.length ≡ length st'.body + 6) where
        abbrev item : Item
        item = record { encoding = h.encoding; body = st'.body }

        fell : room st ≡ length st'.body + 6 + room st'
        fell = takes.falls

        pub fits : kept.bytes + h.length ≤ limits.input
        fits = omega (arith, stands.room, fell, size)

        frame_size : length (frame_of item) ≡ h.length
        frame_size = omega (arith, size)

        begins : (input left : List ℕ) → TakesBy input st st' left (Ok (taken.Frame h)) → Begins on none_ahead input (Frame item ∷ []) left
        begins input left by_frame =
            let is : IsFrame limits.frame item = subst (λ n. IsFrame n item) stands.frame (subst (IsFrame st.frame) by_frame.4 by_frame.1) in
            let whole : input ≡ frame_of item ++ left = by_frame.3 ∙ ap (λ i. frame_of i ++ left) by_frame.4 in
            let one : concat_pieces frame_of (item ∷ []) ≡ frame_of item = append-nil (frame_of item) in (
              item ∷ [],
              record { whole = whole ∙ ap (λ x. x ++ left) (sym one); each = (is, tt) },
              omega (arith, ap length one, frame_size, fits),
              refl,
            )

        -- what follows the frame
        module _ (verdict : Verdict) (parts : HasParts (length st'.body) verdict) where
          pub stands_on : BodyOf st' (Ok (taken.Frame h)) → Stands limits st' (counted_by kept h.length verdict)
          stands_on body = record {
            runs = body.2;
            held = body.1;
            frame = takes.frame ∙ stands.frame;
            input = takes.input ∙ stands.input;
            room = omega (arith, stands.room, fell, size);
            items = omega (arith, stands.items, size);
            refused = omega (arith, stands.refused, refused_one verdict);
            translated = omega (arith, stands.translated, translated_one verdict);
            dropped = omega (arith, stands.dropped, parts.dropped, size);
            filled = omega (arith, stands.filled, parts.filled, size);
          }

          pub countable : IsBounded limits → CanCount kept (record { bytes = h.length; verdict = verdict })
          countable bounded = record {
            items = omega (arith, fits, bounded.input, stands.items);
            refused = omega (arith, fits, bounded.input, stands.items, stands.refused);
            translated = omega (arith, fits, bounded.input, stands.items, stands.translated);
            dropped = omega (arith, fits, bounded.input, size, stands.dropped, parts.dropped);
            filled = omega (arith, fits, bounded.input, size, stands.filled, parts.filled);
            bytes = omega (arith, fits, bounded.input);
          }

        module _ (reply : Reply) (replied : IsAnswer kept item reply) where
          pub fails : (input : List ℕ) (IsWritten : Reply → Type 0) → IsWritten reply → before.input.told ≡ Some input → Fails answering pump after input IsWritten
          fails input IsWritten wrote source =
              let f = took st st' before.input.told after.input.told (Ok (taken.Frame h)) input stands.held takes.from source in
              record {
                piece = Frame item;
                reply = reply;
                left = f.0;
                unmet = refl;
                ahead = none_ahead;
                only_lines = refl;
                source = follows_all after.input.told f.0 f.1;
                taken = begins input f.0 f.2;
                keeps = tt;
                stays = λ e. cc;
                replied = replied;
                wrote = wrote;
              }

          pub goes : Wrote before.sinks after.sinks (written_of reply) → Calm before after →
              Goes answering pump (running (counted_by kept h.length reply.verdict) none_ahead) before after
          goes wrote calm =
              let counts : counted_by kept h.length reply.verdict ≡ counted kept (Frame item) reply.verdict = ap (λ n. counted_by kept n reply.verdict) (sym frame_size) in
              record {
                answers = λ input follows.
                    let source = told_of before.input.told input follows in
                    let f = took st st' before.input.told after.input.told (Ok (taken.Frame h)) input stands.held takes.from source in
                    record { piece = Frame item; reply = reply; left = f.0; source = follows_all after.input.told f.0 f.1; taken = begins input f.0 f.2; keeps = tt; stays = λ e. cc; replied = replied; wrote = wrote; kept = counts };
                unmet = refl;
                ahead = refl;
                calm = calm;
                runs = refl;
                more = omega arith;
                within = omega (arith, fits, stands.items, size);
                bytes_more = λ read. omega (arith, size);
                bytes_within = fits;
                unread = λ none. cc;
              }
