use Rattle.std.proofs.Common.{◌≡◌, ◌*◌, ◌+◌, ◌≤◌, [], drop, length, slice_get, Some}
use Rattle.bridge_terms.specs.Parts.{pieces_of}
use Rattle.bridge_terms.specs.Plans.{Plan}
use Rattle.bridge_terms.specs.WayBack.{first}
use Rattle.field_judge.specs.declared.level.BackLevel.{BackLevel}
use Rattle.field_judge.specs.Fields.{fields_of}
use Rattle.field_judge.specs.Heads.{heads, piece_missing}
use Rattle.field_judge.specs.Levels.{IsLevel, IsNumbered}
use Rattle.field_judge.proofs.Locating.{told_at}
use Rattle.field_judge.proofs.missing.+missing.Given as goal

abbrev pub decreases-missing_field : goal.decreases-missing_field
decreases-missing_field l = 5 * length l.fields.now + 2

abbrev pub decreases-missing_row : goal.decreases-missing_row
decreases-missing_row l = 5 * length l.fields.now + 1

abbrev pub decreases-missing_pieces : goal.decreases-missing_pieces
decreases-missing_pieces l = 5 * length l.run.now + 3

abbrev pub invariant-missing_field-loop-i : goal.invariant-missing_field-loop-i
invariant-missing_field-loop-i l = (p : Plan) → IsLevel l.levels p l.level → IsNumbered p
    → first (told_at p l.fields) (drop l.i (heads p)) ≡ first (told_at p l.fields) (heads p)

abbrev pub invariant-missing_pieces-pieces : goal.invariant-missing_pieces-pieces
invariant-missing_pieces-pieces l =
    record {
      shorter : length l.left ≤ length l.run;
      front : (pieces_of l.group.delimiter (fields_of l.left)).front ≡ [];
      told : (inner : Plan) (own : BackLevel) → slice_get l.levels l.group.level ≡ Some own → IsLevel l.levels inner own → IsNumbered inner
          → first (piece_missing inner) (pieces_of l.group.delimiter (fields_of l.left)).pieces ≡ first (piece_missing inner) (pieces_of l.group.delimiter (fields_of l.run)).pieces;
    }

abbrev pub decreases-missing_pieces-pieces : goal.decreases-missing_pieces-pieces
decreases-missing_pieces-pieces l = length l.left
