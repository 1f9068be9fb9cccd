use Rattle.std.proofs.Common.{length, ap, arith}
use Rattle.flyweight_view.proofs.Nexts.{entries_many}
use Rattle.flyweight_view.proofs.entries.EntriesView.len.Goals as goal

pub returns : goal.returns
returns c = omega (arith, ap length c.self.view_is, entries_many c.self.inside.layer c.self.inside.left c.self.invariant.lie)
