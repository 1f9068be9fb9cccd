use Rattle.std.proofs.Common.{◌≤◌, length}
use Rattle.flyweight_view.specs.Deep.{deepest_in}
use Rattle.tree_json.specs.Views.{PrintsFront}
use Rattle.std.specs.Prelude.{Some}
use Rattle.printers.specs.Prints.{Prints}
use Rattle.tree_json.specs.Texts.{AreTextsOfAll}
use Rattle.tree_json.proofs.block.put_flat_entries.Given as goal

abbrev pub invariant-entries : goal.invariant-entries
invariant-entries g l =
    record {
      low : deepest_in l.entries ≤ deepest_in l.initial.entries;
      texts : AreTextsOfAll (Some l.texts) l.entries;
      goes : PrintsFront l.later l.initial.entries l.entries (Prints g.O.Sink.state l.initial.printer l.printer);
    }

abbrev pub decreases-entries : goal.decreases-entries
decreases-entries g l = length l.entries
