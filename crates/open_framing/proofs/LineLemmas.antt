-- A line is read back from its bytes, and a stream is cut into lines in one way.
use Rattle.std.proofs.Common.{◌≡◌, ◌+◌, ◌<◌, ◌∷◌, append_assoc, ℕ, ◌≤◌, Bool, true, false, List, [], ◌++◌, length, take, Option, Some, None, refl, sym, ap, ◌∙◌, subst, arith, length-append}
use Rattle.std.proofs.Math.Seq.{take-append-add}
use Rattle.std.proofs.lemmas.Bool.{lt-ltb, leb-true, le-leb, ne_eqb, eqb-true, eq-eqb}
use Rattle.std.specs.Prelude.{nat_lt, nat_le, ◌==◌, ◌≢◌, if◌then◌else◌, ⊤}
use Rattle.std.specs.List.{AllByRecursion}
use Rattle.open_framing.specs.Pieces.{concat_pieces, pieces_in, rest_of}
use Rattle.open_framing.specs.Lines.{LineOver, longest_line, line_end, ended, IsLine, LineEnd, last_of, Lines, with_byte, before_end, if_within, first_line, ended_lines_of, lines_of}
use Rattle.open_framing.proofs.PieceLemmas.{more_behind, FindsPieces, pieces_found, rest_found, pieces_once}

-- what stands before a line end is found
before_end-ended : (line more : List ℕ) → AllByRecursion (λ b. b ≢ line_end) line → before_end (ended line ++ more) ≡ Some line
before_end-ended [] more plain = refl
before_end-ended (b ∷ line) more plain = rw (ne_eqb b 10 plain.0) (ap (with_byte b) (before_end-ended line more plain.1))

-- the line stands at the front of the bytes
abbrev pub Stands : List ℕ → List ℕ → Type 0
Stands bytes line = AllByRecursion (λ b. b ≢ line_end) line × ((more : List ℕ) × (bytes ≡ ended line ++ more))

stands_longer : (b : ℕ) (bytes line : List ℕ) (o : Option (List ℕ)) → b ≢ line_end → ((l : List ℕ) → o ≡ Some l → Stands bytes l) → with_byte b o ≡ Some line → Stands (b ∷ bytes) line
stands_longer b bytes line None other shorter h = cc
stands_longer b bytes line (Some l) other shorter h =
    let is : b ∷ l ≡ line = cc in
    let at = shorter l refl in
    subst (Stands (b ∷ bytes)) is ((other, at.0), (at.1.0, ap (λ more. b ∷ more) at.1.1))

stands_by : (b : ℕ) (bytes line : List ℕ) (is_end : Bool) → (b == line_end) ≡ is_end → ((l : List ℕ) → before_end bytes ≡ Some l → Stands bytes l) →
    (if is_end then Some [] else with_byte b (before_end bytes)) ≡ Some line → Stands (b ∷ bytes) line
stands_by b bytes line true is shorter h =
    let none : [] ≡ line = cc in
    subst (Stands (b ∷ bytes)) none (tt, (bytes, ap (λ c. c ∷ bytes) (eqb-true b line_end is)))
stands_by b bytes line false is shorter h = stands_longer b bytes line (before_end bytes) (λ e. let yes = eq-eqb b line_end e in cc) shorter h

-- and what is found stands there
before_end_told : (bytes line : List ℕ) → before_end bytes ≡ Some line → Stands bytes line
before_end_told [] line h = cc
before_end_told (b ∷ bytes) line h = stands_by b bytes line (b == line_end) refl (before_end_told bytes) h

within_told : (o : Option (List ℕ)) (line : List ℕ) → if_within o ≡ Some line → (o ≡ Some line) × (length line ≤ longest_line)
within_told None line h = cc
within_told (Some l) line h = by_test (nat_le (length l) longest_line) refl h where
  by_test : (within : Bool) → nat_le (length l) longest_line ≡ within → (if within then Some l else None) ≡ Some line → (Some l ≡ Some line) × (length line ≤ longest_line)
  by_test false is short = cc
  by_test true is short =
      let same : l ≡ line = cc in
      (short, subst (λ (k : List ℕ). length k ≤ longest_line) same (leb-true (length l) longest_line is))

pub line_sound : (bytes line : List ℕ) → first_line bytes ≡ Some line → IsLine line × ((more : List ℕ) × (bytes ≡ ended line ++ more))
line_sound bytes line h =
    let told = within_told (before_end bytes) line h in
    let stands = before_end_told bytes line told.0 in
    (record { within = told.1; plain = stands.0 }, stands.1)

pub line_complete : (line more : List ℕ) → IsLine line → first_line (ended line ++ more) ≡ Some line
line_complete line more is = ap if_within (before_end-ended line more is.plain) ∙ kept where
  kept : if_within (Some line) ≡ Some line
  kept = rw (le-leb (length line) longest_line is.within) refl

pub line_reads : FindsPieces (λ _. ⊤) IsLine ended first_line
line_reads = record { sound = λ bytes line good h. line_sound bytes line h; complete = line_complete; filled = λ line is. omega (arith, length-append line (line_end ∷ [])); after = λ front back good. tt }

-- the reader gives the lines
pub lines_found : (stream : List ℕ) (input : ℕ) → Lines stream input (lines_of stream input).0 (lines_of stream input).1
unfolding lines_of ended_lines_of
lines_found stream input =
    let bytes = take input stream in
    let goes_on = nat_lt input (length stream) in
    let before = pieces_in first_line ended (length bytes) bytes in
    let found = pieces_found line_reads (length bytes) bytes tt (omega arith) in
    let at : last_of goes_on (rest_of ended bytes before) ≡ last_of goes_on found.0 = ap (last_of goes_on) (rest_found found.1) in
    record { before = before; rest = found.0; pieces = found.1; all = ap (λ last. before ++ last.0) at; ends = ap (λ last. last.1) at }

-- a stream has its lines in one way
pub lines_once : (stream : List ℕ) (input : ℕ) (xs ys : List (List ℕ)) (a b : LineEnd) → Lines stream input xs a → Lines stream input ys b → (xs ≡ ys) × (a ≡ b)
lines_once stream input xs ys a b c d =
    let goes_on = nat_lt input (length stream) in
    let same = pieces_once line_reads (take input stream) c.before d.before c.rest d.rest c.pieces d.pieces in
    let last : last_of goes_on c.rest ≡ last_of goes_on d.rest = ap (last_of goes_on) same.1 in
    (c.all ∙ ap (λ before. before ++ (last_of goes_on c.rest).0) same.0 ∙ ap (λ last. d.before ++ last.0) last ∙ sym d.all, c.ends ∙ ap (λ last. last.1) last ∙ sym d.ends)

-- one more line at the front of a stream
pub lines_more : (stream : List ℕ) (input : ℕ) (line : List ℕ) (lines : List (List ℕ)) (end : LineEnd) → IsLine line → Lines stream input lines end →
    Lines (ended line ++ stream) (length (ended line) + input) (line ∷ lines) end
lines_more stream input line lines end is cut =
    let goes_on : nat_lt (length (ended line) + input) (length (ended line ++ stream)) ≡ nat_lt input (length stream) = more_behind (ended line) stream input in
    let all = cut.pieces in
    record {
      before = line ∷ cut.before;
      rest = cut.rest;
      pieces = record {
        whole = take-append-add (ended line) stream input ∙ ap (λ back. ended line ++ back) all.whole ∙ sym (append_assoc (ended line) (concat_pieces ended cut.before) cut.rest);
        each = (is, all.each);
        longest = all.longest;
      };
      all = ap (λ ls. line ∷ ls) cut.all ∙ ap (λ k. line ∷ cut.before ++ (last_of k cut.rest).0) (sym goes_on);
      ends = cut.ends ∙ ap (λ k. (last_of k cut.rest).1) (sym goes_on);
    }

-- a line end stands after bytes that have none
end_after : (plain line back more : List ℕ) → AllByRecursion (λ b. b ≢ line_end) plain → plain ++ back ≡ line ++ line_end ∷ more → length plain ≤ length line
end_after [] line back more none e = omega arith
end_after (b ∷ plain) [] back more none e = let first : b ≡ line_end = cc in absurd (none.0 first)
end_after (b ∷ plain) (c ∷ line) back more none e =
    let later : plain ++ back ≡ line ++ line_end ∷ more = cc in
    let shorter = end_after plain line back more none.1 later in
    omega arith

-- a stream that begins with too many bytes of a line has no line
pub line_over : (plain stream : List ℕ) (input : ℕ) → AllByRecursion (λ b. b ≢ line_end) plain → longest_line < length plain →
    Lines (plain ++ stream) (length plain + input) [] LineOver
line_over plain stream input none long =
    let rest = take (length plain + input) (plain ++ stream) in
    let goes_on = nat_lt (length plain + input) (length (plain ++ stream)) in
    let front : rest ≡ plain ++ take input stream = take-append-add plain stream input in
    let longer : longest_line < length rest = omega (arith, ap length front, length-append plain (take input stream)) in
    let over : last_of goes_on rest ≡ ([], LineOver) = rw (lt-ltb longest_line (length rest) longer) refl in
    record {
      before = [];
      rest = rest;
      pieces = record {
        whole = refl;
        each = tt;
        longest = λ line more is e.
            let within : length line ≤ longest_line = is.within in
            let after = end_after plain line (take input stream) more none (sym front ∙ e ∙ append_assoc line (line_end ∷ []) more) in
            absurd (omega arith);
      };
      all = ap (λ last. last.0) (sym over);
      ends = ap (λ last. last.1) (sym over);
    }
