use Rattle.std.proofs.Common.{◌+◌, ◌-◌, take, drop, sym, ap, ◌∙◌}
use Rattle.sbe_types.specs.Numbers.{number_of}
use Rattle.clean_walk.specs.inner.Places.{place_in}
use Rattle.clean_walk.proofs.Parts.{part_ends}
use Rattle.clean_walk.proofs.walk.part_end.Goals as goal

pub returns-clause-whole : goal.returns-clause-whole
returns-clause-whole c =
    let prim = c.args.part.now.length.prim in
    let b = take (c.args.at + c.width-size.result - c.args.at) (drop c.args.at c.args.body.now) in
    part_ends (place_in c.args.layout.now c.args.body.now) c.args.part.now c.args.at c.in_ok-many.many c.width-size.result
    c.requires.good c.requires.bytes c.width-size.ensures.value (ap (λ o. number_of o prim b) (sym c.order.ensures) ∙ c.in_ok-many.ensures)
