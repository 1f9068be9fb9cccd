-- What a job that has ended has written, beside its report.
use Rattle.std.proofs.Common.{◌≡◌, ℕ, ◌+◌, Bool, true, false, List, [], ◌∷◌, ◌++◌, length, Option, Some, refl, sym, ap, ◌∙◌, subst, arith, append_assoc, length-append}
use Rattle.std.proofs.lemmas.List.{append-nil}
use Rattle.std.specs.Io.KnownBytes.{Appends, Consumes}
use Rattle.sbe_base.proofs.Known.{appends_more}
use Rattle.sbe_base.specs.Causes.{AppendsPart}
use Rattle.sbe_base.specs.declared.status.Status.{Status}
use Rattle.sbe_base.specs.declared.status.Status.TheVariants as status
use Rattle.open_framing.specs.Pieces.{concat_pieces}
use Rattle.command_steps.specs.Splits.{Reading, Piece, PieceEnd, piece_bytes, Begins, Splits, Holds}
use Rattle.command_steps.specs.Ahead.{Ahead}
use Rattle.command_steps.specs.Reaches.{ReachesIf, Reaches}
use Rattle.replies.specs.Reply.{Written, Reply, written_of, then_written}
use Rattle.command_steps.specs.Replies.{Answering, none_kept, counted, Replies}
use Rattle.command_steps.specs.Ends.{Outcome, end_notes, closed, PiecesReport, stop_line}
use Rattle.sbe_base.specs.Objects.{Object}
use Rattle.replies.specs.Outside.{Streams, Wrote, Breaks, at_output, at_notes, NotesLine, noted, failed}
use Rattle.command_steps.specs.Steps.{Moment, reading_after, IsReported, Ends, Stalls, Fails, Progress}
use Rattle.command_steps.specs.declared.kept.Kept.{Kept}
use Rattle.command_steps.specs.declared.end.Stop.TheVariants as stop
use Rattle.command_steps.proofs.Folding.{AnswersOnce, replies_more, replies_front}
use Rattle.command_steps.proofs.Splitting.{Counts, reaches_first, reaches_more, keeps_one, splits_after, none_ended, holds_after}
use Rattle.command_steps.proofs.Running.{counts}

-- ---- parts

pub whole_part : (old new : Option (List ℕ)) (bytes : List ℕ) → Appends old new bytes → AppendsPart old new bytes
whole_part old new bytes h = (bytes, [], sym (append-nil bytes), h)

-- a part of bytes is a part of what they begin
pub part_of : (old new : Option (List ℕ)) (bytes more all : List ℕ) → AppendsPart old new bytes → all ≡ bytes ++ more → AppendsPart old new all
part_of old new bytes more all h e = (h.0, h.1 ++ more, e ∙ ap (λ b. b ++ more) h.2 ∙ append_assoc h.0 h.1 more, h.3)

-- bytes and then a part of others are a part of both
pub part_after : (old mid new : Option (List ℕ)) (x y : List ℕ) → Appends old mid x → AppendsPart mid new y → AppendsPart old new (x ++ y)
part_after old mid new x y h k = (x ++ k.0, k.1, ap (λ b. x ++ b) k.2 ∙ sym (append_assoc x k.0 k.1), appends_more old mid new x k.0 h k.3)

-- bytes and then none
pub appends_same : (old : Option (List ℕ)) (mid new : Object (List ℕ)) (x : List ℕ) → Appends old mid.told x → new ≡ mid → Appends old new.told x
appends_same old mid new x h same = subst (λ (o : Object (List ℕ)). Appends old o.told x) (sym same) h

pub consumed : (old new : Option (List ℕ)) (input left taken : List ℕ) → old ≡ Some input → new ≡ Some left → input ≡ taken ++ left → Consumes old new taken
consumed old new input left taken h k e = subst (λ o. Consumes o new taken) (sym h) (subst (λ n. Consumes (Some input) n taken) (sym k) e)

-- ---- what a line did

pub reported_told : (line : List ℕ) (last : Status) (old new : Object (List ℕ)) (code : Status) → NotesLine line last old new code → IsReported code → (code ≡ last) × Appends old.told new.told line × (new.faults ≡ old.faults)
reported_told line last old new code told r = elim told [
  | noted c a k ↦ (c, a, k)
  | failed c p f ↦ absurd (subst IsReported c r)
]

-- it is noted in part at the least
pub told_part : (line : List ℕ) (last : Status) (old new : Object (List ℕ)) (code : Status) → NotesLine line last old new code → AppendsPart old.told new.told line
told_part line last old new code told = elim told [
  | noted c a k ↦ whole_part old.told new.told line a
  | failed c p f ↦ p
]

-- ---- fronts of a job's report

-- what was written begins the report's output and notes
pub record Leading (written : Written) (outcome : Outcome) : Type 0 where
  pub output : List ℕ
  pub notes : List ℕ
  pub output_is : outcome.output ≡ written.output ++ output
  pub notes_is : outcome.notes ≡ written.notes ++ notes

module _ (on : Answering) (placed : AnswersOnce on) (input : List ℕ) (outcome : Outcome) (report : PiecesReport on input outcome) where
  pub leading : (ahead : Ahead) (pieces : List Piece) (left : List ℕ) (written : Written) (kept : Kept) → Reaches ahead on.reading input pieces left → Replies on none_kept pieces written kept → Leading written outcome
  leading ahead pieces left written kept begins replies =
      let first = reaches_first ahead.met_end ahead on.reading input pieces report.0 left report.1 begins report.4 in
      let all : Replies on none_kept (pieces ++ first.0) report.2 report.3 = subst (λ (ps : List Piece). Replies on none_kept ps report.2 report.3) first.1 report.5 in
      let front = replies_front on none_kept report.3 kept pieces first.0 report.2 written placed all replies in
      let end = end_notes on report.1 report.3 in
      record {
        output = front.0.output;
        notes = front.0.notes ++ end;
        output_is = ap (λ (o : Outcome). o.output) report.6 ∙ ap (λ (w : Written). w.output) front.1;
        notes_is = ap (λ (o : Outcome). o.notes) report.6 ∙ ap (λ (w : Written). w.notes ++ end) front.1 ∙ append_assoc written.notes front.0.notes end;
      }

-- the line of an input that failed after so many bytes
abbrev pub read_line : List ℕ → List ℕ
read_line taken = stop_line (stop.ReadFault (length taken))

-- ---- the ways to end

-- where the pieces end, after those that an input reaches
ends_after : (met : Bool) (reading : Reading) (kept : Kept) (ahead : Ahead) (stream rest : List ℕ) (xs : List Piece) (end : PieceEnd) → Counts kept xs → ReachesIf met ahead reading stream xs rest → Splits (reading_after reading kept) rest [] end → Splits reading stream xs end
ends_after false reading kept ahead stream rest xs end c h k = splits_after reading kept ahead stream rest xs end c h k
ends_after true reading kept ahead stream rest xs end c h k =
    let none : Splits (reading_after reading kept) [] [] end = subst (λ r. Splits (reading_after reading kept) r [] end) h.1 k in
    subst (Splits reading stream xs) (sym (none_ended reading kept stream xs end c h.0 none)) h.0

module _ (on : Answering) (pump : Moment) (old mid new : Streams) (input : List ℕ) (progress : Progress on pump old mid input) (code : Status) where
  abbrev kept : Kept
  kept = pump.kept

  -- the pieces ended: all is answered, and the report is this one
  module _ (ends : Ends on pump mid new progress.left code) where
    abbrev pub all_written : Outcome
    all_written = closed on ends.end progress.written kept

    pub is_report : PiecesReport on input all_written
    is_report = (
      progress.pieces,
      ends.end,
      progress.written,
      kept,
      ends_after pump.ahead.met_end on.reading kept pump.ahead input progress.left progress.pieces ends.end (counts on kept progress.pieces progress.written progress.replies) progress.begins ends.split,
      progress.replies,
      refl,
    )

    pub output_whole : Appends old.sinks.output.told new.sinks.output.told all_written.output
    output_whole = appends_same old.sinks.output.told mid.sinks.output new.sinks.output progress.written.output progress.wrote.output ends.output

    pub notes_part : AppendsPart old.sinks.notes.told new.sinks.notes.told all_written.notes
    notes_part = part_after old.sinks.notes.told mid.sinks.notes.told new.sinks.notes.told progress.written.notes _ progress.wrote.notes (told_part _ _ mid.sinks.notes new.sinks.notes code ends.noted)

    pub reported : IsReported code → (code ≡ all_written.status) × Wrote old.sinks new.sinks (record { output = all_written.output; notes = all_written.notes })
    reported r =
        let told = reported_told _ _ mid.sinks.notes new.sinks.notes code ends.noted r in
        (told.0, record { output = output_whole; notes = appends_more old.sinks.notes.told mid.sinks.notes.told new.sinks.notes.told progress.written.notes _ progress.wrote.notes told.1 })

  -- the input failed: all whole pieces of what it gave are answered
  module _ (stalls : Stalls on pump mid new progress.left code) where
    abbrev pub given : List ℕ
    given = concat_pieces piece_bytes progress.pieces ++ stalls.held

    begun : Begins on.reading pump.ahead input progress.pieces (stalls.held ++ stalls.left)
    begun = subst (Begins on.reading pump.ahead input progress.pieces) stalls.taken (subst (λ b. ReachesIf b pump.ahead on.reading input progress.pieces progress.left) stalls.unmet progress.begins)

    held_so : Holds on.reading given progress.pieces × (input ≡ given ++ stalls.left)
    held_so = holds_after on.reading kept pump.ahead input stalls.held stalls.left progress.pieces (counts on kept progress.pieces progress.written progress.replies) begun stalls.keeps stalls.reads stalls.part

    pub whole_given : Holds on.reading given progress.pieces
    whole_given = held_so.0

    pub was_given : old.input.told ≡ Some input → Consumes old.input.told new.input.told given
    was_given source = consumed old.input.told new.input.told input stalls.left given source stalls.source held_so.1

    same_line : stop_line (stop.ReadFault (kept.bytes + length stalls.held)) ≡ read_line given
    same_line =
        let counted_so = counts on kept progress.pieces progress.written progress.replies in
        let size : kept.bytes + length stalls.held ≡ length given = omega (arith, counted_so.bytes, length-append (concat_pieces piece_bytes progress.pieces) stalls.held) in
        ap (λ n. stop_line (stop.ReadFault n)) size

    pub line_told : NotesLine (read_line given) status.ReadFault mid.sinks.notes new.sinks.notes code
    line_told = subst (λ l. NotesLine l status.ReadFault mid.sinks.notes new.sinks.notes code) same_line stalls.noted

    pub answers_written : Appends old.sinks.output.told new.sinks.output.told progress.written.output
    answers_written = appends_same old.sinks.output.told mid.sinks.output new.sinks.output progress.written.output progress.wrote.output stalls.output

    pub line_part : AppendsPart old.sinks.notes.told new.sinks.notes.told (progress.written.notes ++ read_line given)
    line_part = part_after old.sinks.notes.told mid.sinks.notes.told new.sinks.notes.told progress.written.notes (read_line given) progress.wrote.notes (told_part (read_line given) status.ReadFault mid.sinks.notes new.sinks.notes code line_told)

  -- a write failed, or it ran out of memory: nothing after the next piece was taken
  module _ (IsWritten : Reply → Type 0) (fails : Fails on pump new progress.left IsWritten) where
    pub begun_last : Reaches fails.ahead on.reading input (progress.pieces ++ fails.piece ∷ []) fails.left
    begun_last =
        let begun = subst (λ b. ReachesIf b pump.ahead on.reading input progress.pieces progress.left) fails.unmet progress.begins in
        reaches_more fails.ahead.met_end on.reading kept pump.ahead fails.ahead input progress.left fails.left progress.pieces (fails.piece ∷ []) (counts on kept progress.pieces progress.written progress.replies) begun fails.taken (keeps_one on.reading pump.ahead.held fails.piece fails.ahead.held fails.keeps) fails.stays

    pub replied_last : Replies on none_kept (progress.pieces ++ fails.piece ∷ []) (then_written progress.written (written_of fails.reply)) (counted kept fails.piece fails.reply.verdict)
    replied_last = replies_more on none_kept kept progress.pieces fails.piece progress.written fails.reply progress.replies fails.replied

  -- what a broken answer leaves
  pub broken_output : (written : Written) → Breaks mid.sinks new.sinks written → AppendsPart old.sinks.output.told new.sinks.output.told (progress.written.output ++ written.output)
  broken_output written breaks = elim breaks [
    | at_output p s f ↦ part_after old.sinks.output.told mid.sinks.output.told new.sinks.output.told progress.written.output written.output progress.wrote.output p
    | at_notes a s p f ↦ whole_part old.sinks.output.told new.sinks.output.told (progress.written.output ++ written.output)
        (appends_more old.sinks.output.told mid.sinks.output.told new.sinks.output.told progress.written.output written.output progress.wrote.output a)
  ]

  pub broken_notes : (written : Written) → Breaks mid.sinks new.sinks written → AppendsPart old.sinks.notes.told new.sinks.notes.told (progress.written.notes ++ written.notes)
  broken_notes written breaks = elim breaks [
    | at_output p s f ↦
        part_of old.sinks.notes.told new.sinks.notes.told progress.written.notes written.notes (progress.written.notes ++ written.notes)
        (whole_part old.sinks.notes.told new.sinks.notes.told progress.written.notes (appends_same old.sinks.notes.told mid.sinks.notes new.sinks.notes progress.written.notes progress.wrote.notes s)) refl
    | at_notes a s p f ↦ part_after old.sinks.notes.told mid.sinks.notes.told new.sinks.notes.told progress.written.notes written.notes progress.wrote.notes p
  ]
