use Rattle.std.proofs.Common.{◌≡◌, ◌*◌, ◌+◌, ◌≤◌, ℕ, List, [], length, slice_get, Some}
use Rattle.bridge_terms.specs.Parts.{pieces_of}
use Rattle.bridge_terms.specs.Plans.{Plan, tags}
use Rattle.bridge_terms.specs.WayBack.{first}
use Rattle.field_judge.specs.declared.level.BackLevel.{BackLevel}
use Rattle.field_judge.specs.Fields.{fields_of}
use Rattle.field_judge.specs.Levels.{piece_wrong, IsLevel, IsNumbered}
use Rattle.field_judge.specs.Marked.{Marked}
use Rattle.field_judge.proofs.Telling.{wrong_after}
use Rattle.field_judge.proofs.judge.+judge.Given as goal

abbrev pub decreases-judge_fields : goal.decreases-judge_fields
decreases-judge_fields l = 5 * length l.fields.now

abbrev pub decreases-judge_part : goal.decreases-judge_part
decreases-judge_part l = 5 * length l.run.now + 3

abbrev pub decreases-judge_group : goal.decreases-judge_group
decreases-judge_group l = 5 * length l.run.now + 2

abbrev pub decreases-judge_pieces : goal.decreases-judge_pieces
decreases-judge_pieces l = 5 * length l.run.now + 1

abbrev pub invariant-judge_fields-fields : goal.invariant-judge_fields-fields
invariant-judge_fields-fields l =
    record {
      shorter : length l.left ≤ length l.fields;
      size : length l.marks.items ≡ length l.level.rows;
      told : (p : Plan) → IsLevel l.levels p l.level → IsNumbered p
          → (gone : List ℕ) × Marked (tags p) l.marks.items gone × (wrong_after p gone l.left ≡ wrong_after p [] l.fields);
    }

abbrev pub decreases-judge_fields-fields : goal.decreases-judge_fields-fields
decreases-judge_fields-fields l = length l.left

abbrev pub invariant-judge_pieces-pieces : goal.invariant-judge_pieces-pieces
invariant-judge_pieces-pieces l =
    record {
      shorter : length l.left ≤ length l.run;
      front : (pieces_of l.group.delimiter (fields_of l.left)).front ≡ [];
      told : (inner : Plan) (own : BackLevel) → slice_get l.levels l.group.level ≡ Some own → IsLevel l.levels inner own → IsNumbered inner
          → first (piece_wrong inner) (pieces_of l.group.delimiter (fields_of l.left)).pieces
          ≡ first (piece_wrong inner) (pieces_of l.group.delimiter (fields_of l.run)).pieces;
    }

abbrev pub decreases-judge_pieces-pieces : goal.decreases-judge_pieces-pieces
decreases-judge_pieces-pieces l = length l.left
