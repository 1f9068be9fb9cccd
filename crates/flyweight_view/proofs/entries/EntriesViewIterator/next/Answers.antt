use Rattle.std.proofs.Common.{length, ap, arith}
use Rattle.body_walk.proofs.Opens.{none_there}
use Rattle.flyweight_view.proofs.Nexts.{entries_many}
use Rattle.flyweight_view.proofs.entries.EntriesViewIterator.next.Goals as goal

pub returns-then-self-eq0-clause-steps : goal.returns-then-self-eq0-clause-steps
returns-then-self-eq0-clause-steps c =
    let many = entries_many c.self.inside.layer c.self.inside.left c.self.invariant.lie in
    let none = none_there c.args.self.now (omega (arith, ap length c.self.view_is, many, c.if-self-eq0.true)) in
    (none, none)
