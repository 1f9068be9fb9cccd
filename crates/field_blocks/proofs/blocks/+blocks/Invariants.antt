use Rattle.std.proofs.Common.{◌≡◌, ◌*◌, ◌+◌, ◌≤◌, List, [], length, Some}
use Rattle.sbe_types.specs.declared.message.Value.{Value}
use Rattle.bridge_terms.specs.Blocks.{AreHeld}
use Rattle.bridge_terms.specs.Gathering.{each, values_of_fields}
use Rattle.bridge_terms.specs.Parts.{pieces_of}
use Rattle.bridge_terms.specs.Plans.{Each, Plan, Tree}
use Rattle.field_judge.specs.Fields.{fields_of}
use Rattle.field_blocks.specs.Found.{parts_in, AreFound, HoldsGroups, IsGroupLevel}
use Rattle.field_blocks.specs.Wired.{IsWired}
use Rattle.field_blocks.proofs.Entries.{AreSoFar}
use Rattle.field_blocks.proofs.blocks.+blocks.Given as goal

abbrev pub decreases-block_of_fields : goal.decreases-block_of_fields
decreases-block_of_fields l = 6 * length l.fields.now + 3

abbrev pub decreases-group_values : goal.decreases-group_values
decreases-group_values l = 6 * length l.fields.now + 2

abbrev pub decreases-group_value : goal.decreases-group_value
decreases-group_value l = 6 * length l.fields.now + 1

abbrev pub decreases-group_entries : goal.decreases-group_entries
decreases-group_entries l = 6 * length l.fields.now

abbrev pub decreases-entries_of : goal.decreases-entries_of
decreases-entries_of l = 6 * length l.run.now + 4

abbrev pub invariant-group_values-loop-i : goal.invariant-group_values-loop-i
invariant-group_values-loop-i l =
    record {
      size : length l.values ≡ l.i;
      within : l.i ≤ length l.own;
      held : (p : Plan) → AreFound l.levels p l.back l.places l.fields → HoldsGroups p (parts_in p l.fields) l.own l.values;
    }

abbrev pub invariant-entries_of-pieces : goal.invariant-entries_of-pieces
invariant-entries_of-pieces l =
    record {
      shorter : length l.left ≤ length l.run;
      front : (pieces_of l.group.delimiter (fields_of l.left)).front ≡ [];
      told : (inner : Plan) (es : List (Tree Value inner)) → IsGroupLevel l.levels l.group inner → IsWired l.level inner → Each (λ e. AreHeld inner e) es
          → each (values_of_fields inner) (pieces_of l.group.delimiter (fields_of l.run)).pieces ≡ Some es
          → AreSoFar l.level inner es l.entries (pieces_of l.group.delimiter (fields_of l.left)).pieces;
    }

abbrev pub decreases-entries_of-pieces : goal.decreases-entries_of-pieces
decreases-entries_of-pieces l = length l.left
