use Rattle.std.proofs.Common.{length, ap, arith}
use Rattle.flyweight_view.proofs.PartsTold.{left_many, left_few}
use Rattle.flyweight_view.proofs.parts.PartsView.next_part.Goals as goal

pub next_range-range-requires-clause-more : goal.next_range-range-requires-clause-more
next_range-range-requires-clause-more c =
    let many = left_many c.self.inside.layer c.in-Some.layer c.self.inside.next c.self.inside.at c.in-Some.is c.self.invariant in
    omega (arith, many, ap length c.self.view_is, c.requires)

pub overflow_add-self : goal.overflow_add-self
overflow_add-self c =
    let many = left_many c.self.inside.layer c.in-Some.layer c.self.inside.next c.self.inside.at c.in-Some.is c.self.invariant in
    let few = left_few c.self.inside.layer c.in-Some.layer c.self.inside.next c.self.inside.at c.in-Some.is c.self.invariant in
    omega (arith, many, few, ap length c.self.view_is, c.requires)
