use Rattle.std.proofs.Common.{◌≤◌, ◌-◌, length, take}
use Rattle.sbe_base.specs.Writes.{WroteAll}
use Rattle.sbe_base.proofs.stream.write_all_to.Given as goal

abbrev pub invariant-loop-done : goal.invariant-loop-done
invariant-loop-done g l = record {
  within : l.done ≤ length l.bytes;
  written : WroteAll (g.O.Sink.state l.fn.sink) (g.O.Sink.state l.sink) (take l.done l.bytes);
}

abbrev pub decreases-loop-done : goal.decreases-loop-done
decreases-loop-done g l = length l.initial.bytes - l.done
