-- One step of a pump over a stream of lines.
use Rattle.std.proofs.Common.{◌≡◌, inl, inr, ℕ, ◌+◌, ◌-◌, ◌≤◌, Bool, true, false, List, [], ◌∷◌, ◌++◌, length, Option, Some, None, Result, Ok, Err, refl, sym, ap, ◌∙◌, subst, arith}
use Rattle.std.specs.Prelude.{nat_lt, ◌==◌, if◌then◌else◌}
use Rattle.std.proofs.lemmas.List.{append-nil, take_all}
use Rattle.std.proofs.lemmas.Bool.Decides.{nat_tests}
use Rattle.sbe_base.specs.declared.status.Limits.{Limits}
use Rattle.sbe_base.specs.declared.status.Status.{Status}
use Rattle.sbe_base.specs.declared.status.Status.TheVariants as status
use Rattle.open_framing.specs.Pieces.{concat_pieces}
use Rattle.open_framing.specs.Lines.{IsLine, LineEnd, before_end, if_within, first_line, last_of, longest_line}
use Rattle.open_framing.specs.Lines as lines
use Rattle.open_framing.proofs.LineLemmas.{line_complete}
use Rattle.frame_stream.specs.declared.lines.LineEnded.{LineEnded}
use Rattle.frame_stream.specs.declared.lines.LineEnded.TheVariants as ended
use Rattle.frame_stream.specs.declared.lines.LineTaken.{LineTaken}
use Rattle.frame_stream.specs.declared.lines.LineTaken.TheVariants as taken
use Rattle.frame_stream.specs.declared.lines.LineErr.{LineErr}
use Rattle.frame_stream.specs.declared.lines.LineErr.TheVariants as err
use Rattle.frame_stream.specs.LineTakes.{LineState, line_room, line_bytes, end_bytes, line_end_answer, TakesEnded, TakesLast, TakesLineBy, TakesLineFrom, TakesLine}
use Rattle.command_steps.specs.Splits.{Reading, Lines, Line, piece_bytes, PieceEnd, End, LineOver, InputLimit, lines_end, Splits, Begins, Holds}
use Rattle.command_steps.specs.Ahead.{Follows}
use Rattle.command_steps.specs.Reaches.{ReachesIf, Reaches}
use Rattle.replies.specs.Reply.{Reply, written_of}
use Rattle.command_steps.specs.Replies.{Answering, by_lines, HasParts, counted_by}
use Rattle.command_steps.specs.Ends.{end_notes, end_status, stop_line}
use Rattle.sbe_base.specs.Objects.{Failed}
use Rattle.replies.specs.Outside.{Streams, Wrote, Calm, NotesLine}
use Rattle.command_steps.specs.Steps.{Moment, running, Goes, Fails, Halts, ended_at, stalled_at}
use Rattle.command_steps.specs.Stands.{IsBounded, StandsLines, HasTaken, CanCount, is_at_end, lines_ahead}
use Rattle.replies.specs.declared.verdict.Verdict.{Verdict}
use Rattle.command_steps.specs.declared.kept.Kept.{Kept}
use Rattle.command_steps.specs.declared.end.Stop.TheVariants as stop
use Rattle.command_steps.proofs.Splitting.{some_same, none_some, ended_size, rest_none, taken_none, none_below}
use Rattle.command_steps.proofs.Stepping.{refused_one, translated_one}

-- ---- lines that end with nothing left

no_line : {x : List ℕ} {xs : List (List ℕ)} → ◌≡◌ {A = List (List ℕ)} [] (x ∷ xs) → ⊥
no_line h = cc

-- what the rest gives, by its tests
abbrev last_by : Bool → Bool → Bool → List ℕ → List (List ℕ) × LineEnd
last_by over goes_on none rest = if over then ([], lines.LineOver) else if goes_on then ([], lines.InputLimit) else if none then ([], lines.End) else (rest ∷ [], lines.End)

last_is : (over goes_on none : Bool) (rest : List ℕ) → [] ≡ (last_by over goes_on none rest).0 → lines.End ≡ (last_by over goes_on none rest).1 → (goes_on ≡ false) × (none ≡ true)
last_is true goes_on none rest h k = cc
last_is false true none rest h k = cc
last_is false false true rest h k = (refl, refl)
last_is false false false rest h k = absurd (no_line h)

no_lines_before : (before last : List (List ℕ)) → [] ≡ before ++ last → (before ≡ []) × ([] ≡ last)
no_lines_before [] last e = (refl, e)
no_lines_before (x ∷ before) last e = absurd (no_line e)

none_counted : (rest : List ℕ) → (length rest == 0) ≡ true → rest ≡ []
none_counted [] h = refl
none_counted (b ∷ rest) h = absurd (apart (sym h ∙ miss))
  where
    miss : (length (b ∷ rest) == 0) ≡ false
    miss = grind (arith, nat_tests)

    apart : ◌≡◌ {A = Bool} true false → ⊥
    apart k = cc

lines_ended : (stream : List ℕ) (n : ℕ) → lines.Lines stream n [] lines.End → stream ≡ []
lines_ended stream n h =
    let none = no_lines_before h.before (last_of (nat_lt n (length stream)) h.rest).0 h.all in
    let ends = last_is (nat_lt longest_line (length h.rest)) (nat_lt n (length stream)) (length h.rest == 0) h.rest none.1 h.ends in
    let within : length stream ≤ n = grind (arith, nat_tests, ends.0) in
    sym (take_all n stream within) ∙ h.pieces.whole ∙ ap (λ (ls : List (List ℕ)). concat_pieces lines.ended ls ++ h.rest) none.0 ∙ none_counted h.rest ends.1

-- nothing is no line and no more
lines_of_nothing : (n : ℕ) → lines.Lines [] n [] lines.End
lines_of_nothing n = record {
  before = [];
  rest = [];
  pieces = record { whole = taken_none n; each = tt; longest = λ x more is e. no_ended x more e };
  all = sym (ap (λ t. (last_of t []).0) (none_below n));
  ends = sym (ap (λ t. (last_of t []).1) (none_below n));
}
  where
    no_ended : (x more : List ℕ) → ◌≡◌ {A = List ℕ} [] (lines.ended x ++ more) → ⊥
    no_ended [] more e = cc
    no_ended (b ∷ x) more e = cc

-- ---- what a stream tells, in the words of a pump

abbrev pub line_cut : LineEnded → LineEnd
line_cut ended.End = lines.End
line_cut ended.Over = lines.LineOver
line_cut ended.Limit = lines.InputLimit

abbrev pub line_piece_end : LineEnded → PieceEnd
line_piece_end ended.End = End
line_piece_end ended.Over = LineOver
line_piece_end ended.Limit = InputLimit

same_end : (e : LineEnded) → line_piece_end e ≡ lines_end (line_cut e)
same_end ended.End = refl
same_end ended.Over = refl
same_end ended.Limit = refl

lines_told : (stream left : List ℕ) (old new : LineState) (e : LineEnded) → TakesLineBy stream old new left (line_end_answer e) → lines.Lines stream (line_room old) [] (line_cut e)
lines_told stream left old new ended.End h = h.0
lines_told stream left old new ended.Over h = h.0
lines_told stream left old new ended.Limit h = h.0

took_line : (old new : LineState) (a b : Option (List ℕ)) (result : Result LineTaken LineErr) (left : List ℕ) → TakesLineFrom old new a b result → a ≡ Some left →
    (rest : List ℕ) × (b ≡ Some rest) × TakesLineBy (old.held ++ left) old new rest result
took_line old new None b result left h e = absurd (none_some e)
took_line old new (Some x) None result left h e = absurd h
took_line old new (Some x) (Some y) result left h e = (y, refl, subst (λ s. TakesLineBy (old.held ++ s) old new y result) (some_same e) h)

-- the same of all that follows
took : (old new : LineState) (a b : Option (List ℕ)) (result : Result LineTaken LineErr) (input : List ℕ) → TakesLineFrom old new a b result → Follows (lines_ahead old) a input →
    (rest : List ℕ) × (b ≡ Some rest) × TakesLineBy input old new rest result
took old new a b result input h f =
    let t = took_line old new a b result f.left h f.source in
    (t.0, t.1, subst (λ s. TakesLineBy s old new t.0 result) (sym f.whole) t.2)

-- ---- a step

module _ (limits : Limits) (last_line : Kept → List ℕ) (IsAnswer : Kept → List ℕ → Reply → Type 0) (kept : Kept) (st st' : LineState) (stands : StandsLines limits st kept) where
  abbrev pub answering : Answering
  answering = by_lines limits.input last_line IsAnswer

  abbrev pub pump : Moment
  pump = running kept (lines_ahead st)

  abbrev on : Reading
  on = Lines (limits.input - kept.bytes)

  room_left : line_room st ≡ limits.input - kept.bytes
  room_left = omega (arith, stands.room)

  module _ (before after : Streams) (code : Status) where
    -- ---- the end

    split : (input left : List ℕ) (e : LineEnded) → TakesLineBy input st st' left (line_end_answer e) → Splits on input [] (line_piece_end e)
    split input left e h = ([], line_cut e, subst (λ n. lines.Lines input n [] (line_cut e)) room_left (lines_told input left st st' e h), refl, same_end e)

    nothing_left : (input left : List ℕ) (e : LineEnded) → after.input.told ≡ Some left → TakesLineBy input st st' left (line_end_answer e) → line_piece_end e ≡ End → after.input.told ≡ Some []
    nothing_left input left ended.End source h is = source ∙ ap Some (rest_none st'.held left (sym (lines_ended input (line_room st) h.0) ∙ h.1))
    nothing_left input left ended.Over source h is = cc
    nothing_left input left ended.Limit source h is = cc

    pub ends : (e : LineEnded) (input : List ℕ) → TakesLine st st' before.input.told after.input.told (line_end_answer e) → after.sinks.output ≡ before.sinks.output →
        NotesLine (end_notes answering (line_piece_end e) kept) (end_status (line_piece_end e) kept.refused) before.sinks.notes after.sinks.notes code →
        Follows (lines_ahead st) before.input.told input → Halts answering pump before after input code
    ends e input takes same told follows =
        let h = took st st' before.input.told after.input.told (line_end_answer e) input takes.from follows in
        ended_at (record { end = line_piece_end e; split = split input h.0 e h.2; left = λ read. nothing_left input h.0 e h.1 h.2; output = same; noted = told })

    -- the end was met before
    pub ends_again : (input : List ℕ) → st.ended ≡ Some ended.End → after.input ≡ before.input → after.sinks.output ≡ before.sinks.output →
        NotesLine (end_notes answering End kept) (end_status End kept.refused) before.sinks.notes after.sinks.notes code →
        Follows (lines_ahead st) before.input.told input → Halts answering pump before after input code
    ends_again input met unread same told follows =
        let none : input ≡ [] = follows.none (ap is_at_end met) in
        let left : follows.left ≡ [] = rest_none st.held follows.left (sym none ∙ follows.whole) in
        let here : Splits on [] [] End = ([], lines.End, lines_of_nothing (limits.input - kept.bytes), refl, refl) in
        ended_at (record {
          end = End;
          split = subst (λ s. Splits on s [] End) (sym none) here;
          left = λ read is. ap (λ o. o.told) unread ∙ follows.source ∙ ap Some left;
          output = same;
          noted = told;
        })

    -- ---- a fault of the input

    no_first : (bytes : List ℕ) → before_end bytes ≡ None → (x more : List ℕ) → IsLine x → bytes ≡ lines.ended x ++ more → ⊥
    no_first bytes none x more is e = none_some (sym (ap if_within none) ∙ ap first_line e ∙ line_complete x more is)

    part_held : (held : List ℕ) → before_end held ≡ None → Holds on held []
    part_held held none = ([], held, record { whole = refl; each = tt; longest = no_first held none }, refl)

    pub stalls_at : (input : List ℕ) → st.ended ≡ None → TakesLine st st' before.input.told after.input.told (Err err.ReadFault) → Failed before.input after.input → after.sinks.output ≡ before.sinks.output →
        NotesLine (stop_line (stop.ReadFault st'.taken)) status.ReadFault before.sinks.notes after.sinks.notes code → Follows (lines_ahead st) before.input.told input → Halts answering pump before after input code
    stalls_at input runs takes fault same told follows =
        let h = took st st' before.input.told after.input.told (Err err.ReadFault) input takes.from follows in
        let at : st'.taken ≡ kept.bytes + length st'.held = omega (arith, stands.room, stands.input, takes.falls, takes.input, takes.within) in
        stalled_at (record {
          unmet = ap is_at_end runs;
          keeps = tt;
          reads = refl;
          held = st'.held;
          left = h.0;
          source = h.1;
          taken = h.2;
          part = part_held st'.held takes.held;
          fault = fault;
          output = same;
          noted = subst (λ n. NotesLine (stop_line (stop.ReadFault n)) status.ReadFault before.sinks.notes after.sinks.notes code) at told;
        })

    -- ---- a line

    module _ (runs : st.ended ≡ None) (takes : TakesLine st st' before.input.told after.input.told (Ok taken.Line)) where
      fits : kept.bytes + line_bytes st' ≤ limits.input
      fits = omega (arith, stands.room, takes.falls.0)

      -- the line as a piece, and what follows it
      record TookLine (input : List ℕ) : Type 0 where
        has_its_end : Bool
        rest : List ℕ
        source : Follows (lines_ahead st') after.input.told rest
        taken : Reaches (lines_ahead st') on input (Line st'.line has_its_end ∷ []) rest
        size : line_bytes st' ≡ length (piece_bytes (Line st'.line has_its_end))

      took_ended : (input left : List ℕ) → after.input.told ≡ Some left → TakesEnded input st st' left → TookLine input
      took_ended input left source h =
          let rest = st'.held ++ left in
          let size : line_bytes st' ≡ length (lines.ended st'.line) = ap (λ (e : Option LineEnded). length st'.line + end_bytes e) h.ended ∙ sym (ended_size st'.line) in
          let one : concat_pieces lines.ended (st'.line ∷ []) ≡ lines.ended st'.line = append-nil (lines.ended st'.line) in
          let within : length (concat_pieces lines.ended (st'.line ∷ [])) ≤ limits.input - kept.bytes = omega (arith, ap length one, size, fits) in
          let begins : Begins on (lines_ahead st') input (Line st'.line true ∷ []) rest = (st'.line ∷ [], record { whole = h.whole ∙ ap (λ b. b ++ rest) (sym one); each = (h.line, tt) }, within, refl) in
          record {
            has_its_end = true;
            rest = rest;
            source = record { left = left; source = source; whole = refl; none = λ e. absurd (apart (sym (ap is_at_end h.ended) ∙ e)); all = λ e. cc };
            taken = subst (λ (e : Option LineEnded). ReachesIf (is_at_end e) (lines_ahead st') on input (Line st'.line true ∷ []) rest) (sym h.ended) begins;
            size = size;
          }
        where
          apart : ◌≡◌ {A = Bool} false true → ⊥
          apart k = cc

      took_last : (input left : List ℕ) → after.input.told ≡ Some left → TakesLast input st st' left → TookLine input
      took_last input left source h =
          let no_more : nat_lt (length st'.line) (length input) ≡ false = let same : length input ≡ length st'.line = ap length h.whole in grind (arith, nat_tests, same) in
          let splits : Splits on input (Line st'.line false ∷ []) End = (
            st'.line ∷ [],
            lines.End,
            subst (λ n. lines.Lines input n (st'.line ∷ []) lines.End) room_left h.lines,
            ap (λ b. Line st'.line b ∷ []) (sym no_more),
            refl,
          ) in
          record {
            has_its_end = false;
            rest = [];
            source = record { left = left; source = source; whole = sym (ap (λ b. b ++ left) h.held ∙ h.left); none = λ e. refl; all = λ e. cc };
            taken = subst (λ (e : Option LineEnded). ReachesIf (is_at_end e) (lines_ahead st') on input (Line st'.line false ∷ []) []) (sym h.ended) (splits, refl);
            size = ap (λ (e : Option LineEnded). length st'.line + end_bytes e) h.ended ∙ omega arith;
          }

      took_one : (input : List ℕ) → Follows (lines_ahead st) before.input.told input → TookLine input
      took_one input follows =
          let h = took st st' before.input.told after.input.told (Ok taken.Line) input takes.from follows in
          elim h.2 [ inl e ↦ took_ended input h.0 h.1 e | inr l ↦ took_last input h.0 h.1 l ]

      -- what follows the line
      pub has_taken : length st'.line ≤ longest_line → HasTaken limits st' kept
      has_taken line = record {
        runs = elim takes.ended [
          | inl none ↦ inl none
          | inr e ↦ elim takes.held [ inl none ↦ inl none | inr h ↦ inr (e, h) ]
        ];
        within = takes.within;
        input = takes.input ∙ stands.input;
        room = omega (arith, stands.room, takes.falls.0);
        line = line;
      }

      line_counted : length st'.line ≤ line_bytes st'
      line_counted = omega arith

      module _ (verdict : Verdict) (parts : HasParts (length st'.line) verdict) where
        pub stands_on : StandsLines limits st' (counted_by kept (line_bytes st') verdict)
        stands_on = record {
          runs = takes.ended;
          within = takes.within;
          input = takes.input ∙ stands.input;
          room = omega (arith, stands.room, takes.falls.0);
          items = omega (arith, stands.items, takes.falls.1);
          refused = omega (arith, stands.refused, refused_one verdict);
          translated = omega (arith, stands.translated, translated_one verdict);
          dropped = omega (arith, stands.dropped, parts.dropped, line_counted);
          filled = omega (arith, stands.filled, parts.filled, line_counted);
        }

        pub countable : IsBounded limits → CanCount kept (record { bytes = line_bytes st'; verdict = verdict })
        countable bounded = record {
          items = omega (arith, fits, bounded.input, stands.items);
          refused = omega (arith, fits, bounded.input, stands.items, stands.refused);
          translated = omega (arith, fits, bounded.input, stands.items, stands.translated);
          dropped = omega (arith, fits, bounded.input, line_counted, stands.dropped, parts.dropped);
          filled = omega (arith, fits, bounded.input, line_counted, stands.filled, parts.filled);
          bytes = omega (arith, fits, bounded.input);
        }

      -- the same where the stream has stood since, and its bytes are counted
      pub stands_so : (now : LineState) (bytes : ℕ) (verdict : Verdict) → HasParts (length st'.line) verdict → now ≡ st' → bytes ≡ line_bytes now → StandsLines limits now (counted_by kept bytes verdict)
      stands_so now bytes verdict parts same size =
          subst (λ n. StandsLines limits now (counted_by kept n verdict)) (sym size) (subst (λ (s : LineState). StandsLines limits s (counted_by kept (line_bytes s) verdict)) (sym same) (stands_on verdict parts))

      pub countable_so : (now : LineState) (bytes : ℕ) (verdict : Verdict) → HasParts (length st'.line) verdict → now ≡ st' → bytes ≡ line_bytes now → IsBounded limits → CanCount kept (record { bytes = bytes; verdict = verdict })
      countable_so now bytes verdict parts same size bounded =
          subst (λ n. CanCount kept (record { bytes = n; verdict = verdict })) (sym (size ∙ ap line_bytes same)) (countable verdict parts bounded)

      module _ (reply : Reply) (replied : IsAnswer kept st'.line reply) where
        pub fails : (input : List ℕ) (IsWritten : Reply → Type 0) → IsWritten reply → Follows (lines_ahead st) before.input.told input → Fails answering pump after input IsWritten
        fails input IsWritten wrote follows =
            let t = took_one input follows in
            record {
              piece = Line st'.line t.has_its_end;
              reply = reply;
              left = t.rest;
              unmet = ap is_at_end runs;
              ahead = lines_ahead st';
              only_lines = tt;
              source = t.source;
              taken = t.taken;
              keeps = tt;
              stays = λ e. cc;
              replied = replied;
              wrote = wrote;
            }

        pub goes : Wrote before.sinks after.sinks (written_of reply) → Calm before after → Goes answering pump (running (counted_by kept (line_bytes st') reply.verdict) (lines_ahead st')) before after
        goes wrote calm = record {
          answers = λ input follows.
              let t = took_one input follows in
              record {
                piece = Line st'.line t.has_its_end;
                reply = reply;
                left = t.rest;
                source = t.source;
                taken = t.taken;
                keeps = tt;
                stays = λ e. cc;
                replied = replied;
                wrote = wrote;
                kept = ap (λ n. counted_by kept n reply.verdict) t.size;
              };
          unmet = ap is_at_end runs;
          ahead = tt;
          calm = calm;
          runs = refl;
          more = omega arith;
          within = omega (arith, fits, stands.items, takes.falls.1);
          bytes_more = λ read. omega (arith, takes.falls.1);
          bytes_within = fits;
          unread = λ none. cc;
        }
