use Rattle.std.proofs.Common.{◌≡◌, ◌≤◌, ◌+◌, ◌*◌, ℕ, List, ◌++◌, length, drop, false}
use Rattle.flyweight_view.specs.Deep.{deepest, deepest_in}
use Rattle.json_values.specs.Values.{zipped}
use Rattle.tree_json.specs.Lines.{items_by}
use Rattle.json_values.specs.Plain.{entries_text, plain_items}
use Rattle.tree_json.specs.Views.{block_object, entries_entry}
use Rattle.printers.specs.Prints.{Prints}
use Rattle.tree_json.specs.Texts.{AreTextsOfAll}
use Rattle.flyweight_view.proofs.Depth.{deepest_of, AreWithin}
use Rattle.tree_json.proofs.LevelTextsOf.{GroupsHave}
use Rattle.tree_json.proofs.block.+block.Given as goal

abbrev pub invariant-put_groups-loop-i : goal.invariant-put_groups-loop-i
invariant-put_groups-loop-i g l =
    record {
      count : l.i + length l.groups ≡ length l.block.groups;
      within : AreWithin (deepest l.block.groups) l.groups;
      texts : GroupsHave (g.T.Kept.texts l.texts) l.i l.groups;
      written : (done : List ℕ)
          × Prints g.O.Sink.state l.initial.printer l.printer done
          × (done ++ entries_text l.later (zipped entries_entry (drop l.i l.block.groups) l.groups) ≡ entries_text false (zipped entries_entry l.block.groups l.initial.groups));
    }

abbrev pub invariant-put_views-loop-entry : goal.invariant-put_views-loop-entry
invariant-put_views-loop-entry g l =
    record {
      low : deepest_in l.entry-iterator ≤ deepest_in l.fn.entries;
      texts : AreTextsOfAll (g.T.Kept.texts l.texts) l.entry-iterator;
      written : (done : List ℕ)
          × Prints g.O.Sink.state l.initial.printer l.printer done
          × (done ++ plain_items l.later (items_by block_object l.entry-iterator) ≡ plain_items l.fn.later (items_by block_object l.fn.entries));
    }

abbrev pub decreases-put_front : goal.decreases-put_front
decreases-put_front g l = 6 * deepest l.block.now.groups + 1

abbrev pub decreases-put_groups : goal.decreases-put_groups
decreases-put_groups g l = 6 * deepest l.block.now.groups

abbrev pub decreases-put_entry : goal.decreases-put_entry
decreases-put_entry g l = 6 * deepest l.entry.now.groups + 2

abbrev pub decreases-put_views : goal.decreases-put_views
decreases-put_views g l = 6 * deepest_in l.entries + 3

abbrev pub decreases-put_entries : goal.decreases-put_entries
decreases-put_entries g l = 6 * deepest_in l.entries + 4

abbrev pub decreases-put_group : goal.decreases-put_group
decreases-put_group g l = 6 * deepest_of l.entries + 5
