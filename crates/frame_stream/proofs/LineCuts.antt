-- The next line, or the end, is that of the lines.
use Rattle.std.proofs.Common.{◌≡◌, ℕ, ◌+◌, ◌-◌, ◌<◌, ◌≤◌, Bool, true, false, List, [], ◌∷◌, ◌++◌, length, take, drop, Option, Some, None, Ok, Err, inl, inr, refl, sym, ap, ◌∙◌, subst, arith, append_assoc, length-append, length-take-le, length-drop}
use Rattle.std.specs.Prelude.{◌==◌, nat_lt}
use Rattle.std.proofs.lemmas.Bool.{le-leb, ne_eqb}
use Rattle.std.proofs.lemmas.Bool.Decides.{nat_tests}
use Rattle.std.proofs.lemmas.List.{append-nil, nil_from_length, take_all}
use Rattle.std.proofs.Math.Seq.{drop-append_seam}
use Rattle.open_framing.specs.Lines.{LineEnd, Lines, End, LineOver, InputLimit, before_end, ended, first_line, if_within, last_of, line_end, longest_line}
use Rattle.open_framing.proofs.LineLemmas.{line_complete, line_over, line_sound}
use Rattle.frame_stream.specs.declared.reading.Dry.TheVariants as dry
use Rattle.frame_stream.specs.declared.window.NoEnd.TheVariants as no_end
use Rattle.frame_stream.specs.declared.lines.LineEnded.{LineEnded}
use Rattle.frame_stream.specs.declared.lines.LineEnded.TheVariants as line_ended
use Rattle.frame_stream.specs.declared.lines.LineTaken.{LineTaken}
use Rattle.frame_stream.specs.declared.lines.LineTaken.TheVariants as line
use Rattle.frame_stream.specs.declared.lines.LineErr.TheVariants as line_err
use Rattle.frame_stream.specs.Window.{HeldState, Moves, LineEnds, let_go_of}
use Rattle.frame_stream.specs.LineTakes.{LineState, IsLineStream, TakesEnded, TakesLast, TakesLine, TakesLineFrom, LineEndedBy, LineFalls, LineHeldBy, IsLastTaken, lines_shown, line_room}
use Rattle.frame_stream.proofs.Ends.{plain_none}
use Rattle.frame_stream.proofs.Within.{most, stream_is, held_within, all_held, one_beyond}

-- a stream within whose limit no line end stands
lines_none : (stream rest : List ℕ) (input : ℕ) (goes_on : Bool) (lines : List (List ℕ)) (end : LineEnd) → take input stream ≡ rest → nat_lt input (length stream) ≡ goes_on →
    before_end rest ≡ None → last_of goes_on rest ≡ (lines, end) → Lines stream input lines end
lines_none stream rest input goes_on lines end front more none last = record {
  before = [];
  rest = rest;
  pieces = record { whole = front; each = tt; longest = λ x after piece e. let told : if_within (before_end rest) ≡ Some x = ap first_line e ∙ line_complete x after piece in let nothing : if_within (before_end rest) ≡ None = ap if_within none in cc };
  all = sym (ap (λ t. (last_of t rest).0) more ∙ ap (λ p. p.0) last);
  ends = sym (ap (λ t. (last_of t rest).1) more ∙ ap (λ p. p.1) last);
}

-- what a rest within the limit of a line gives
last_over : (rest : List ℕ) → length rest ≤ longest_line → last_of true rest ≡ ([], InputLimit)
last_over rest within = let no : nat_lt longest_line (length rest) ≡ false = grind (arith, nat_tests, within) in rw no refl

last_some : (rest : List ℕ) → length rest ≤ longest_line → 0 < length rest → last_of false rest ≡ (rest ∷ [], End)
last_some [] within some = absurd (omega arith)
last_some (b ∷ rest) within some =
    let no : nat_lt longest_line (length (b ∷ rest)) ≡ false = grind (arith, nat_tests, within) in
    let one : (length (b ∷ rest) == 0) ≡ false = ne_eqb (length (b ∷ rest)) 0 (λ e. omega (arith, e)) in
    rw (no, one) refl

-- ---- a line with its end

module _ (at front : ℕ) (h n : HeldState) (is : IsLineStream at front h) where
  abbrev pub was : Option LineEnded → LineState
  was end = lines_shown at front h end

  whole_line : (l l' : List ℕ) (i : ℕ) → Moves (let_go_of front h) n (Some l) (Some l') [] → i < length n.bytes → before_end n.bytes ≡ Some (take i n.bytes) →
      TakesEnded (drop front h.bytes ++ l) (was None) (lines_shown i (i + 1) n None) l'
  whole_line l l' i m low found =
      let line' = take i n.bytes in
      let count : length line' ≡ i = length-take-le i n.bytes (omega (arith, low)) in
      let within : length line' ≤ longest_line = omega (arith, count, low, m.fits, m.size, is.size) in
      let fits : if_within (Some line') ≡ Some line' = rw (le-leb (length line') longest_line within) refl in
      let sound = line_sound n.bytes line' (ap if_within found ∙ fits) in
      let more = sound.1.0 in
      let size : i + 1 ≡ length (ended line') = omega (arith, count, length-append line' (line_end ∷ [])) in
      let rest : drop (i + 1) n.bytes ≡ more = ap (λ k. drop k n.bytes) size ∙ ap (drop (length (ended line'))) sound.1.1 ∙ drop-append_seam (ended line') more in
      record {
        line = sound.0;
        whole = stream_is (let_go_of front h) n l l' [] m ∙ ap (λ b. b ++ l') sound.1.1 ∙ append_assoc (ended line') more l' ∙ ap (λ x. ended line' ++ (x ++ l')) (sym rest);
        ended = refl;
      }

  from_line : (l r : Option (List ℕ)) (i : ℕ) → LineEnds (let_go_of front h) n l r (Ok i) → TakesLineFrom (was None) (lines_shown i (i + 1) n None) l r (Ok line.Line)
  from_line None r i e = tt
  from_line (Some l) None i e = absurd e.0.consumed
  from_line (Some l) (Some l') i e = inl (whole_line l l' i e.0 e.1.0 e.1.1)

  line_falls : (l r : Option (List ℕ)) (i : ℕ) → Moves (let_go_of front h) n l r [] → i < length n.bytes → line_room (was None) ≡ length (take i n.bytes) + 1 + line_room (lines_shown i (i + 1) n None)
  line_falls l r i m low =
      omega (arith, length-take-le i n.bytes (omega (arith, low)), low, m.taken, m.within, m.limit, ap length m.grown, length-append (drop front h.bytes) m.more, length-drop (i + 1) n.bytes)

  pub takes_line : (end : Option LineEnded) (l r : Option (List ℕ)) (i : ℕ) → end ≡ None → LineEnds (let_go_of front h) n l r (Ok i) → TakesLine (was end) (lines_shown i (i + 1) n end) l r (Ok line.Line)
  takes_line end l r i runs e = subst (λ k. TakesLine (was k) (lines_shown i (i + 1) n k) l r (Ok line.Line)) (sym runs) (record {
    from = from_line l r i e;
    falls = (line_falls l r i e.0 e.1.0, omega arith);
    held = inl refl;
    ended = inl refl;
    within = e.0.within;
    input = e.0.limit;
  })

  -- ---- the end of the source

  last_line : (l l' beyond : List ℕ) (len : ℕ) → len ≡ length n.bytes → 0 < len → Moves (let_go_of front h) n (Some l) (Some l') beyond → beyond ≡ [] → l' ≡ [] → before_end n.bytes ≡ None → length n.bytes < n.size →
      TakesLast (drop front h.bytes ++ l) (was None) (lines_shown len len n (Some line_ended.End)) l'
  last_line l l' beyond len count some m nothing over none short =
      let stream = drop front h.bytes ++ l in
      let all = all_held (let_go_of front h) n l l' beyond m nothing over in
      let within : length n.bytes ≤ longest_line = omega (arith, short, m.size, is.size) in
      let line' : take len n.bytes ≡ n.bytes = take_all len n.bytes (omega (arith, count)) in
      let lines : Lines stream (line_room (was None)) (n.bytes ∷ []) End = lines_none stream n.bytes (most (let_go_of front h)) false (n.bytes ∷ []) End all.1 all.2 none (last_some n.bytes within (omega (arith, count, some))) in
      record {
        lines = subst (λ k. Lines stream (line_room (was None)) (k ∷ []) End) (sym line') lines;
        whole = all.0 ∙ sym line';
        held = nil_from_length (drop len n.bytes) (omega (arith, length-drop len n.bytes, count));
        left = over;
        ended = refl;
      }

  no_line : (l l' beyond : List ℕ) (len : ℕ) → len ≡ length n.bytes → len ≡ 0 → Moves (let_go_of front h) n (Some l) (Some l') beyond → beyond ≡ [] → l' ≡ [] → before_end n.bytes ≡ None →
      Lines (drop front h.bytes ++ l) (line_room (was None)) [] End × (drop front h.bytes ++ l ≡ drop len n.bytes ++ l')
  no_line l l' beyond len count empty m nothing over none =
      let all = all_held (let_go_of front h) n l l' beyond m nothing over in
      let bytes : n.bytes ≡ [] = nil_from_length n.bytes (omega (arith, count, empty)) in
      let last : last_of false n.bytes ≡ ([], End) = ap (last_of false) bytes in
      let held : drop len n.bytes ≡ n.bytes = ap (λ k. drop k n.bytes) empty in (
        lines_none (drop front h.bytes ++ l) n.bytes (most (let_go_of front h)) false [] End all.1 all.2 none last,
        all.0 ∙ sym (append-nil n.bytes) ∙ ap (λ x. n.bytes ++ x) (sym over) ∙ ap (λ x. x ++ l') (sym held),
      )

  from_last : (l r : Option (List ℕ)) (len : ℕ) (t : LineTaken) → len ≡ length n.bytes → IsLastTaken len t → LineEnds (let_go_of front h) n l r (Err (no_end.Dry dry.End)) → TakesLineFrom (was None) (lines_shown len len n (Some line_ended.End)) l r (Ok t)
  from_last None r len t count last e = tt
  from_last (Some l) None len t count last e = absurd e.1.consumed
  from_last (Some l) (Some l') len line.Line count last e = inr (last_line l l' e.0 len count last e.1 e.4.0 e.4.1 e.2 e.3)
  from_last (Some l) (Some l') len line.End count last e = no_line l l' e.0 len count last e.1 e.4.0 e.4.1 e.2

  last_falls : (l r : Option (List ℕ)) (beyond : List ℕ) (len : ℕ) (t : LineTaken) → len ≡ length n.bytes → IsLastTaken len t → Moves (let_go_of front h) n l r beyond → LineFalls (was None) (lines_shown len len n (Some line_ended.End)) (Ok t)
  last_falls l r beyond len line.Line count last m =
      let size : length (take len n.bytes) ≡ len = length-take-le len n.bytes (omega (arith, count)) in
      (omega (arith, size, count, m.taken, m.within, m.limit, ap length m.grown, length-append (drop front h.bytes) m.more, length-drop len n.bytes), omega (arith, size, last))
  last_falls l r beyond len line.End count last m =
      omega (arith, last, count, m.taken, m.within, m.limit, ap length m.grown, length-append (drop front h.bytes) m.more, length-drop len n.bytes)

  last_held : (len : ℕ) (t : LineTaken) → len ≡ length n.bytes → LineHeldBy (lines_shown len len n (Some line_ended.End)) (Ok t)
  last_held len line.Line count = inr (nil_from_length (drop len n.bytes) (omega (arith, length-drop len n.bytes, count)))
  last_held len line.End count = nil_from_length (drop len n.bytes) (omega (arith, length-drop len n.bytes, count))

  last_ended : (t : LineTaken) → LineEndedBy (Some line_ended.End) (Ok t)
  last_ended line.Line = inr refl
  last_ended line.End = refl

  pub takes_last : (end : Option LineEnded) (l r : Option (List ℕ)) (len : ℕ) (t : LineTaken) → end ≡ None → len ≡ length n.bytes → IsLastTaken len t → LineEnds (let_go_of front h) n l r (Err (no_end.Dry dry.End)) →
      TakesLine (was end) (lines_shown len len n (Some line_ended.End)) l r (Ok t)
  takes_last end l r len t runs count last e = subst (λ k. TakesLine (was k) (lines_shown len len n (Some line_ended.End)) l r (Ok t)) (sym runs) (record {
    from = from_last l r len t count last e;
    falls = last_falls l r e.0 len t count last e.1;
    held = last_held len t count;
    ended = last_ended t;
    within = e.1.within;
    input = e.1.limit;
  })

  -- ---- no line

  room_kept : (l r : Option (List ℕ)) (beyond : List ℕ) (end : Option LineEnded) → Moves (let_go_of front h) n l r beyond → line_room (lines_shown 0 0 n end) ≡ line_room (was None)
  room_kept l r beyond end m = omega (arith, m.taken, m.limit, ap length m.grown, length-append (drop front h.bytes) m.more)

  from_limit : (l r : Option (List ℕ)) → LineEnds (let_go_of front h) n l r (Err (no_end.Dry dry.Over)) → TakesLineFrom (was None) (lines_shown 0 0 n (Some line_ended.Limit)) l r (Err line_err.InputLimit)
  from_limit None r e = tt
  from_limit (Some l) None e = absurd e.1.consumed
  from_limit (Some l) (Some l') e =
      let g = let_go_of front h in
      let low : h.taken ≤ h.limit = is.within in
      let within : length n.bytes ≤ longest_line = omega (arith, e.3, e.1.size, is.size) in
      let one = one_beyond g n l l' e.0 e.4.0 low e.1 e.4.1 (e.5 refl) in (
        lines_none (drop front h.bytes ++ l) n.bytes (most g) true [] InputLimit one.0 one.1 e.2 (last_over n.bytes within),
        (e.4.0, stream_is g n l l' e.0 e.1 ∙ ap (λ x. n.bytes ++ (x ++ l')) e.4.1),
      )

  pub takes_limit : (end : Option LineEnded) (l r : Option (List ℕ)) → end ≡ None → LineEnds (let_go_of front h) n l r (Err (no_end.Dry dry.Over)) → TakesLine (was end) (lines_shown 0 0 n (Some line_ended.Limit)) l r (Err line_err.InputLimit)
  takes_limit end l r runs e = subst (λ k. TakesLine (was k) (lines_shown 0 0 n (Some line_ended.Limit)) l r (Err line_err.InputLimit)) (sym runs) (record {
    from = from_limit l r e;
    falls = room_kept l r e.0 (Some line_ended.Limit) e.1;
    held = (e.2, e.5 refl);
    ended = refl;
    within = e.1.within;
    input = e.1.limit;
  })

  from_full : (l r : Option (List ℕ)) → LineEnds (let_go_of front h) n l r (Err no_end.Full) → TakesLineFrom (was None) (lines_shown 0 0 n (Some line_ended.Over)) l r (Err line_err.LineOver)
  from_full None r e = tt
  from_full (Some l) None e = absurd e.0.consumed
  from_full (Some l) (Some l') e =
      let g = let_go_of front h in
      let long : longest_line < length n.bytes = omega (arith, e.2, e.0.size, is.size) in
      let within = held_within g n (Some l) (Some l') [] e.0 in
      let whole : length n.bytes + (most g - length n.bytes) ≡ most g = omega (arith, within) in
      let stream : drop front h.bytes ++ l ≡ n.bytes ++ l' = stream_is g n l l' [] e.0 in
      let over = line_over n.bytes l' (most g - length n.bytes) (plain_none n.bytes e.1) long in (
        subst (λ s. Lines s (most g) [] LineOver) (sym stream) (subst (λ k. Lines (n.bytes ++ l') k [] LineOver) whole over),
        stream,
      )

  pub takes_full : (end : Option LineEnded) (l r : Option (List ℕ)) → end ≡ None → LineEnds (let_go_of front h) n l r (Err no_end.Full) → TakesLine (was end) (lines_shown 0 0 n (Some line_ended.Over)) l r (Err line_err.LineOver)
  takes_full end l r runs e = subst (λ k. TakesLine (was k) (lines_shown 0 0 n (Some line_ended.Over)) l r (Err line_err.LineOver)) (sym runs) (record {
    from = from_full l r e;
    falls = room_kept l r [] (Some line_ended.Over) e.0;
    held = (e.1, omega (arith, e.2, e.0.fits, e.0.size, is.size));
    ended = refl;
    within = e.0.within;
    input = e.0.limit;
  })

  from_fault : (l r : Option (List ℕ)) → LineEnds (let_go_of front h) n l r (Err (no_end.Dry dry.Fault)) → TakesLineFrom (was None) (lines_shown 0 0 n None) l r (Err line_err.ReadFault)
  from_fault None r e = tt
  from_fault (Some l) None e = absurd e.1.consumed
  from_fault (Some l) (Some l') e = stream_is (let_go_of front h) n l l' e.0 e.1 ∙ ap (λ x. n.bytes ++ (x ++ l')) e.4

  pub takes_fault : (end : Option LineEnded) (l r : Option (List ℕ)) → end ≡ None → LineEnds (let_go_of front h) n l r (Err (no_end.Dry dry.Fault)) → TakesLine (was end) (lines_shown 0 0 n end) l r (Err line_err.ReadFault)
  takes_fault end l r runs e = subst (λ k. TakesLine (was k) (lines_shown 0 0 n k) l r (Err line_err.ReadFault)) (sym runs) (record {
    from = from_fault l r e;
    falls = room_kept l r e.0 None e.1;
    held = e.2;
    ended = refl;
    within = e.1.within;
    input = e.1.limit;
  })
