use Rattle.std.proofs.Common.{◌≡◌, ◌+◌, ◌*◌, ◌≤◌, length}
use Rattle.tagvalue_codec.specs.declared.write.Phase.TheVariants.{Open}
use Rattle.bridge_terms.specs.Blocks.{values_of}
use Rattle.bridge_terms.specs.Parts.{TagLists}
use Rattle.bridge_terms.specs.Places.{places_of, entries_places}
use Rattle.bridge_terms.specs.Plans.{Plan, Each}
use Rattle.message_walk.specs.Reached.{IsReached}
use Rattle.message_walk.specs.Rows.{AreRows, FitsBlock, entry_places}
use Rattle.message_walk.specs.States.{after}
use Rattle.message_walk.proofs.walk.+walk.Given as goal

abbrev pub decreases-put_rest : goal.decreases-put_rest
decreases-put_rest g l = 7 * length l.rows.now

abbrev pub decreases-put_tail : goal.decreases-put_tail
decreases-put_tail g l = 7 * length l.rows.now + 1

abbrev pub decreases-put_left : goal.decreases-put_left
decreases-put_left g l = 7 * length l.rows.now + 2

abbrev pub decreases-put_entry : goal.decreases-put_entry
decreases-put_entry g l = 7 * length l.rows.now + 3

abbrev pub decreases-put_entries : goal.decreases-put_entries
decreases-put_entries g l = 7 * length l.rows.now + 4

abbrev pub decreases-put_run : goal.decreases-put_run
decreases-put_run g l = 7 * length l.rows.now + 5

abbrev pub decreases-put_group : goal.decreases-put_group
decreases-put_group g l = 7 * length l.rows.now + 6

abbrev pub invariant-put_rest-loop-left : goal.invariant-put_rest-loop-left
invariant-put_rest-loop-left g l =
    record {
      shorter : length l.left ≤ length l.rows;
      reached : IsReached l.block l.reached;
      begun : l.out.phase ≡ Open;
      put : (lists : TagLists) (p : Plan) → AreRows g.R.PutValue.spells lists p l.rows → FitsBlock p l.block
          → (q : Plan) × AreRows g.R.PutValue.spells lists q l.left × FitsBlock q l.block
          × (after lists l.out (places_of q (values_of q l.block.block)) ≡ after lists l.initial.out (places_of p (values_of p l.block.block)));
    }

abbrev pub invariant-put_left-loop-left : goal.invariant-put_left-loop-left
invariant-put_left-loop-left g l =
    record {
      shorter : length l.left ≤ length l.rows;
      begun : l.out.phase ≡ Open;
      put : (lists : TagLists) (p : Plan) → AreRows g.R.PutValue.spells lists p l.rows → FitsBlock p l.block
          → (q : Plan) × AreRows g.R.PutValue.spells lists q l.left × FitsBlock q l.block
          × (after lists l.out (places_of q (values_of q l.block.block)) ≡ after lists l.initial.out (places_of p (values_of p l.block.block)));
    }

abbrev pub decreases-put_left-loop-left : goal.decreases-put_left-loop-left
decreases-put_left-loop-left g l = length l.left

abbrev pub decreases-put_rest-loop-left : goal.decreases-put_rest-loop-left
decreases-put_rest-loop-left g l = length l.left

abbrev pub invariant-put_entries-loop-entry : goal.invariant-put_entries-loop-entry
invariant-put_entries-loop-entry g l =
    record {
      begun : l.out.phase ≡ Open;
      numbered : l.number + length l.entry-iterator ≡ l.count;
      put : (lists : TagLists) (p : Plan) → AreRows g.R.PutValue.spells lists p l.rows → Each (FitsBlock p) l.fn.entries
          → Each (FitsBlock p) l.entry-iterator
          × (after lists l.out (entries_places (entry_places p) l.number l.entry-iterator) ≡ after lists l.initial.out (entries_places (entry_places p) 0 l.fn.entries));
    }
