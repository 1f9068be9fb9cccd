-- How the pieces of an input end: what is noted then, and the status.
use Rattle.std.specs.Prelude.{◌≡◌, ℕ, ◌+◌, nat_lt, if◌then◌else◌, List, ◌++◌, codes, decimal}
use Rattle.sbe_base.specs.declared.status.Status.{Status}
use Rattle.sbe_base.specs.declared.status.Status.TheVariants as status
use Rattle.open_framing.specs.Lines.{longest_line}
use Rattle.open_framing.specs.declared.head.HeadErr.{HeadErr}
use Rattle.open_framing.specs.declared.head.HeadErr.TheVariants.{HeadShort, LengthShort, LengthOver, Encoding}
use Rattle.command_steps.specs.Splits as ends
use Rattle.command_steps.specs.Splits.{Piece, PieceEnd, Splits, most_taken}
use Rattle.replies.specs.Reply.{Written}
use Rattle.command_steps.specs.Replies.{Answering, none_kept, Replies}
use Rattle.command_steps.specs.declared.kept.Kept.{Kept}
use Rattle.command_steps.specs.declared.end.Stop.{Stop}
use Rattle.command_steps.specs.declared.end.Stop.TheVariants.{ReadFault, EndInside, Head, LineOver, InputLimit}

-- ---- where the steps stop

-- A line that ends with a number.
abbrev pub at_line : List ℕ → ℕ → List ℕ
at_line front at = front ++ (decimal at ++ codes "}\n")

-- The line of a framing fault: its name, its offset and its number.
abbrev pub fault_line : List ℕ → ℕ → ℕ → List ℕ
fault_line name at number =
    codes "{\"framing\":\"" ++ (name ++ (codes "\",\"at\":" ++ (decimal at ++ (codes ",\"number\":" ++ (decimal number ++ codes "}\n")))))

-- the line of a faulty head; a stream of frames never ends at a short head
abbrev pub head_line : HeadErr → ℕ → List ℕ
head_line HeadShort at = fault_line (codes "HeadShort") at 0
head_line (LengthShort n) at = fault_line (codes "LengthShort") at n
head_line (LengthOver n) at = fault_line (codes "LengthOver") at n
head_line (Encoding n) at = fault_line (codes "Encoding") at n

-- the line of each stop
abbrev pub stop_line : Stop → List ℕ
stop_line (ReadFault at) = at_line (codes "{\"fault\":\"Read\",\"at\":") at
stop_line (EndInside held at) = fault_line (codes "EndInside") at held
stop_line (Head fault at) = head_line fault at
stop_line (LineOver at) = fault_line (codes "LineOver") at (longest_line + 1)
stop_line (InputLimit limit) = at_line (codes "{\"limit\":\"Input\",\"at\":") limit

-- The status of each stop.
abbrev pub stop_status : Stop → Status
stop_status (ReadFault at) = status.ReadFault
stop_status (EndInside held at) = status.FramingRefused
stop_status (Head fault at) = status.FramingRefused
stop_status (LineOver at) = status.FramingRefused
stop_status (InputLimit limit) = status.InputLimit

-- ---- where the pieces end

-- The status after all was answered and this many items were refused.
abbrev pub done_status : ℕ → Status
done_status refused = if nat_lt 0 refused then status.SomeRefused else status.Done

-- what a command notes at the end of the pieces, by what was done
abbrev pub end_notes : Answering → PieceEnd → Kept → List ℕ
end_notes on ends.End kept = on.last kept
end_notes on (ends.EndInside n) kept = fault_line (codes "EndInside") kept.bytes n
end_notes on (ends.HeadFault fault) kept = head_line fault kept.bytes
end_notes on ends.LineOver kept = fault_line (codes "LineOver") kept.bytes (longest_line + 1)
end_notes on ends.InputLimit kept = at_line (codes "{\"limit\":\"Input\",\"at\":") (most_taken on.reading)

-- the status at the end, if this many pieces were refused
abbrev pub end_status : PieceEnd → ℕ → Status
end_status ends.End refused = done_status refused
end_status (ends.EndInside n) refused = status.FramingRefused
end_status (ends.HeadFault fault) refused = status.FramingRefused
end_status ends.LineOver refused = status.FramingRefused
end_status ends.InputLimit refused = status.InputLimit

-- the output, the notes and the status of a run
pub record Outcome : Type 0 where
  pub output : List ℕ
  pub notes : List ℕ
  pub status : Status

-- the answers that were written, and then the end
abbrev pub closed : Answering → PieceEnd → Written → Kept → Outcome
closed on end written kept = record {
  output = written.output;
  notes = written.notes ++ end_notes on end kept;
  status = end_status end kept.refused;
}

-- The pieces of the input are answered in order, and then its end is reported.
abbrev pub PiecesReport : Answering → List ℕ → Outcome → Type 0
PiecesReport on input outcome =
    (pieces : List Piece) × (end : PieceEnd) × (written : Written) × (kept : Kept) × Splits on.reading input pieces end
    × Replies on none_kept pieces written kept × (outcome ≡ closed on end written kept)
