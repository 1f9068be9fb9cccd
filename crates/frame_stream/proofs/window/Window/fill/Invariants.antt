use Rattle.std.proofs.Common.{◌≡◌, ◌≤◌, ◌-◌, [], length}
use Rattle.frame_stream.specs.Window.{Moves}
use Rattle.frame_stream.proofs.window.Window.fill.Given as goal

abbrev pub invariant-loop-self : goal.invariant-loop-self
invariant-loop-self g l = record {
  moved : Moves l.fn.self.held l.self.held (g.I.Source.state l.fn.input).told (g.I.Source.state l.input).told [];
  within : length l.self.held.bytes ≤ l.want;
  faults : (g.I.Source.state l.input).faults ≡ (g.I.Source.state l.fn.input).faults;
}

abbrev pub decreases-loop-self : goal.decreases-loop-self
decreases-loop-self g l = l.want - length l.self.held.bytes
