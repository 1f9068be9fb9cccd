use Rattle.std.proofs.Common.{◌≡◌, ◌-◌, []}
use Rattle.std.specs.Prelude.{true}
use Rattle.raw_fix.specs.Items.{texts_of}
use Rattle.raw_fix.specs.Taking.{left_if}
use Rattle.raw_fix.proofs.CourseLemmas.{Course}
use Rattle.raw_fix.proofs.items.Items.next.Given as goal

abbrev pub invariant-loop-settled : goal.invariant-loop-settled
invariant-loop-settled g l = record {
  course : Course (texts_of l.fn.tags l.fn.self) l.fn.self l.self (left_if l.fn.self.met (g.I.Source.state l.fn.input).told) (left_if l.fn.self.met (g.I.Source.state l.input).told);
  met : l.self.met ≡ l.fn.self.met;
  same : l.fn.self.met ≡ true → l.input ≡ l.fn.input;
  empty : l.table ≡ [];
  faults : (g.I.Source.state l.input).faults ≡ (g.I.Source.state l.fn.input).faults;
}

abbrev pub decreases-loop-settled : goal.decreases-loop-settled
decreases-loop-settled g l = l.self.held.limit - l.self.held.taken
