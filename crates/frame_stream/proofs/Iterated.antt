-- What is taken one after another.
use Rattle.std.proofs.Common.{◌≡◌, ℕ, ◌+◌, List, [], ◌∷◌, ◌++◌, length, None, sym, ap, ◌∙◌, subst, arith, append_assoc, length-append}
use Rattle.std.specs.List.{AllByRecursion}
use Rattle.std.proofs.lemmas.List.{append-nil}
use Rattle.open_framing.specs.Pieces.{concat_pieces}
use Rattle.open_framing.specs.Frames.{Cut, CutEnd, IsFrame, Item, frame_of}
use Rattle.open_framing.specs.Lines.{IsLine, LineEnd, Lines, ended}
use Rattle.open_framing.specs.Lines as lines
use Rattle.open_framing.proofs.FrameLemmas.{cut_more}
use Rattle.open_framing.proofs.LineLemmas.{lines_more}
use Rattle.frame_stream.specs.declared.held.Ended.{Ended}
use Rattle.frame_stream.specs.declared.held.Ended.TheVariants as ended'
use Rattle.frame_stream.specs.declared.lines.LineEnded.{LineEnded}
use Rattle.frame_stream.specs.declared.lines.LineEnded.TheVariants as line_ended
use Rattle.frame_stream.specs.Stream.{StreamState, TakesBy, TakesItems, cut_end, room, end_answer}
use Rattle.frame_stream.specs.LineTakes.{LineState, TakesLast, TakesLineBy, TakesLines, end_bytes, line_room, line_end_answer, lines_end}

-- one more piece in front of those whose bytes are joined
joined_front : (x xs stream : List ℕ) (n : ℕ) → length x + (length xs + n) ≡ length (x ++ xs) + n
joined_front x xs stream n = omega (arith, length-append x xs)

pub cut_items : (items more : List Item) (stream : List ℕ) (limit input : ℕ) (end : CutEnd) → AllByRecursion (IsFrame limit) items → Cut stream limit input more end →
    Cut (concat_pieces frame_of items ++ stream) limit (length (concat_pieces frame_of items) + input) (items ++ more) end
cut_items [] more stream limit input end all cut = subst (λ k. Cut stream limit k more end) (omega arith) cut
cut_items (x ∷ items) more stream limit input end all cut =
    let front = frame_of x in
    let back = concat_pieces frame_of items in
    let later = cut_items items more stream limit input end all.1 cut in
    let here = cut_more (back ++ stream) limit (length back + input) x (items ++ more) end all.0 later in
    subst (λ s. Cut s limit (length (front ++ back) + input) (x ∷ items ++ more) end) (sym (append_assoc front back stream))
    (subst (λ k. Cut (front ++ (back ++ stream)) limit k (x ∷ items ++ more) end) (joined_front front back stream input) here)

cut_told : (stream left' : List ℕ) (old new : StreamState) (e : Ended) → TakesBy stream old new left' (end_answer e) → Cut stream old.frame (room old) [] (cut_end e)
cut_told stream left' old new ended'.End h = h.0
cut_told stream left' old new (ended'.Inside n) h = h.0
cut_told stream left' old new (ended'.Head e) h = h.0
cut_told stream left' old new ended'.Over h = h.0

pub cut_taken : (items : List Item) (stream left left' : List ℕ) (old next new : StreamState) (e : Ended) → TakesItems items stream old next left → TakesBy left next new left' (end_answer e) →
    Cut stream old.frame (room old) items (cut_end e)
cut_taken [] stream left left' old next new e taken end =
    subst (λ st. Cut stream st.frame (room st) [] (cut_end e)) taken.1 (subst (λ s. Cut s next.frame (room next) [] (cut_end e)) (sym taken.0) (cut_told left left' next new e end))
cut_taken (item ∷ items) stream left left' old next new e taken end =
    let mid = taken.1 in
    let rest = taken.2 in
    let by = taken.3 in
    let found = by.0 in
    let same : found ≡ item = by.4 ∙ sym taken.4 in
    let later : Cut rest old.frame (room mid) items (cut_end e) = subst (λ k. Cut rest k (room mid) items (cut_end e)) taken.5 (cut_taken items rest left left' mid next new e taken.6 end) in
    let here = cut_more rest old.frame (room mid) found items (cut_end e) by.1 later in
    subst (λ i. Cut stream old.frame (room old) (i ∷ items) (cut_end e)) same
    (subst (λ s. Cut s old.frame (room old) (found ∷ items) (cut_end e)) (sym by.3) (subst (λ k. Cut (frame_of found ++ rest) old.frame k (found ∷ items) (cut_end e)) (sym by.2) here))

pub lines_items : (some more : List (List ℕ)) (stream : List ℕ) (input : ℕ) (end : LineEnd) → AllByRecursion IsLine some → Lines stream input more end →
    Lines (concat_pieces ended some ++ stream) (length (concat_pieces ended some) + input) (some ++ more) end
lines_items [] more stream input end all cut = subst (λ k. Lines stream k more end) (omega arith) cut
lines_items (x ∷ some) more stream input end all cut =
    let front = ended x in
    let back = concat_pieces ended some in
    let later = lines_items some more stream input end all.1 cut in
    let here = lines_more (back ++ stream) (length back + input) x (some ++ more) end all.0 later in
    subst (λ s. Lines s (length (front ++ back) + input) (x ∷ some ++ more) end) (sym (append_assoc front back stream))
    (subst (λ k. Lines (front ++ (back ++ stream)) k (x ∷ some ++ more) end) (joined_front front back stream input) here)

lines_told : (stream left' : List ℕ) (old new : LineState) (e : LineEnded) → TakesLineBy stream old new left' (line_end_answer e) → Lines stream (line_room old) [] (lines_end e)
lines_told stream left' old new line_ended.End h = h.0
lines_told stream left' old new line_ended.Over h = h.0
lines_told stream left' old new line_ended.Limit h = h.0

one_end : (s : LineState) → s.ended ≡ None → end_bytes s.ended ≡ 1
one_end s none = ap end_bytes none

-- the lines that were taken stand before those of the rest
before_rest : (some more : List (List ℕ)) (stream left : List ℕ) (old next : LineState) (end : LineEnd) → TakesLines some stream old next left → Lines left (line_room next) more end →
    Lines stream (line_room old) (some ++ more) end
before_rest [] more stream left old next end taken rest =
    subst (λ st. Lines stream (line_room st) more end) taken.1 (subst (λ s. Lines s (line_room next) more end) (sym taken.0) rest)
before_rest (x ∷ some) more stream left old next end taken rest =
    let mid = taken.0 in
    let by = taken.2 in
    let stream' = mid.held ++ taken.1 in
    let later = before_rest some more stream' left mid next end taken.5 rest in
    let here = lines_more stream' (line_room mid) mid.line (some ++ more) end by.line later in
    let size : length (ended mid.line) + line_room mid ≡ line_room old = omega (arith, taken.4, length-append mid.line (lines.line_end ∷ []), one_end mid by.ended) in
    subst (λ l. Lines stream (line_room old) (l ∷ some ++ more) end) (sym taken.3)
    (subst (λ s. Lines s (line_room old) (mid.line ∷ some ++ more) end) (sym by.whole) (subst (λ k. Lines (ended mid.line ++ stream') k (mid.line ∷ some ++ more) end) size here))

pub lines_taken : (some : List (List ℕ)) (stream left left' : List ℕ) (old next new : LineState) (e : LineEnded) → TakesLines some stream old next left → TakesLineBy left next new left' (line_end_answer e) →
    Lines stream (line_room old) some (lines_end e)
lines_taken some stream left left' old next new e taken end =
    subst (λ ls. Lines stream (line_room old) ls (lines_end e)) (append-nil some) (before_rest some [] stream left old next (lines_end e) taken (lines_told left left' next new e end))

pub last_taken : (some : List (List ℕ)) (stream left left' : List ℕ) (old next new : LineState) → TakesLines some stream old next left → TakesLast left next new left' →
    Lines stream (line_room old) (some ++ new.line ∷ []) lines.End
last_taken some stream left left' old next new taken end = before_rest some (new.line ∷ []) stream left old next lines.End taken end.lines
