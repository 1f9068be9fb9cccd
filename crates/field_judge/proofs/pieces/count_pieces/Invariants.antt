use Rattle.std.proofs.Common.{◌≡◌, ◌≤◌, ◌+◌, drop, length}
use Rattle.bridge_terms.specs.Parts.{pieces_of}
use Rattle.field_judge.specs.Fields.{fields_of}
use Rattle.field_judge.proofs.pieces.count_pieces.Given as goal

abbrev pub invariant-loop-i : goal.invariant-loop-i
invariant-loop-i l =
    (l.count + length (pieces_of l.delimiter (fields_of (drop l.i l.run))).pieces ≡ length (pieces_of l.delimiter (fields_of l.run)).pieces)
    × (l.count ≤ l.i)
