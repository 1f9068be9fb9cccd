use Rattle.std.proofs.Common.{◌≡◌, ◌*◌, ℕ, List, ◌++◌, length, false}
use Rattle.sbe_types.specs.Numbers.{prim_width}
use Rattle.json_values.specs.Plain.{plain_items}
use Rattle.json_fields.specs.Shown.{elements_shown}
use Rattle.printers.specs.Prints.{Prints}
use Rattle.json_fields.proofs.kinds.put_array.Given as goal

abbrev pub invariant-loop-left : goal.invariant-loop-left
invariant-loop-left g l =
    record {
      long : length l.rest ≡ prim_width l.leaf.prim * l.left;
      written : (done : List ℕ)
          × Prints g.O.Sink.state l.initial.printer l.printer done
          × (done ++ plain_items l.later (elements_shown l.order l.leaf l.left l.rest) ≡ plain_items false (elements_shown l.order l.leaf l.leaf.length l.bytes));
    }

abbrev pub decreases-loop-left : goal.decreases-loop-left
decreases-loop-left g l = l.left
