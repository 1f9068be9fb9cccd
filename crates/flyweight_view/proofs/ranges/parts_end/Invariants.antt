use Rattle.std.proofs.Common.{◌≡◌}
use Rattle.flyweight_view.specs.inner.Lefts.{rest_of}
use Rattle.flyweight_view.specs.inner.Parts.{parts_at, LineUp}
use Rattle.flyweight_view.proofs.ranges.parts_end.Given as goal

abbrev pub invariant-loop-i : goal.invariant-loop-i
invariant-loop-i l =
    record {
      line : LineUp l.layer l.i l.at;
      rest : rest_of (parts_at l.layer 0 l.fn.at) ≡ rest_of (parts_at l.layer l.i l.at);
    }
